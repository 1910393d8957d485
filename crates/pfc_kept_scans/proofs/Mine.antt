-- The clause of the process that acts on a resource: it goes on elsewhere, in another turn or trial, or waits.
use Rattle.std.proofs.Common.{◌≡◌, ℕ, ◌≤◌, ℤ, true, List, [], ◌∷◌, Option, refl, sym, ap, ◌∙◌, subst}
use Rattle.pfc_state.specs.Stands.{Stand, is_unfinished}
use Rattle.pfc_world.specs.Tables.{Table, at}
use Rattle.pfc_world.specs.Transitions.{ticked}
use Rattle.pfc_semantics.specs.Store.{Store}
use Rattle.pfc_semantics.specs.Rewriting.{Doing}
use Rattle.pfc_semantics.specs.Configurations.{Hand, Activation, Activity, Config, activity_of}
use Rattle.pfc_stacks.specs.declared.refs.Ref.{Ref}
use Rattle.pfc_stacks.specs.Refs.{word_of}
use Rattle.pfc_stacks.specs.Stacks.{Stack, Stacks, stack_of, last_activation}
use Rattle.pfc_cells.specs.Homes.{Homes}
use Rattle.pfc_cells.specs.Memory.{Entry, Entries}
use Rattle.pfc_machines.specs.declared.machine.Machine.{Machine}
use Rattle.pfc_machines.specs.declared.descriptors.Descriptor.{Descriptor}
use Rattle.pfc_machines.specs.declared.descriptors.Scan.{Scan as MachineScan}
use Rattle.pfc_machines.specs.Communications.{Communicating}
use Rattle.pfc_machines.specs.Descriptors.{descriptor_of}
use Rattle.pfc_standing_code.specs.Effects.{Arm}
use Rattle.pfc_standing_code.specs.Performs.{own_again}
use Rattle.pfc_representation.specs.Levels.{Facts, program_in, LivingLevel, IsSeenBy}
use Rattle.pfc_representation.specs.Rooms.{process_count, own_address, MayMeet}
use Rattle.pfc_representation.specs.Callers.{IsWithin, AreCallers}
use Rattle.pfc_representation.specs.Hands.{HandIs}
use Rattle.pfc_representation.specs.Holding.{Holders, holders_in, Holds}
use Rattle.pfc_representation.specs.Trials.{TrialIs}
use Rattle.pfc_representation.specs.Processes.{IsAtLevel, IsUnderWay, ActivationsAre, RepresentsProcess}
use Rattle.pfc_representation.specs.Keeping.{IsLender}
use Rattle.pfc_representation.specs.Acting.{IsActing}
use Rattle.pfc_kept_object_actions.proofs.Rows.{level_anew}
use Rattle.pfc_kept_object_actions.proofs.Change.{holds_on}
use Rattle.pfc_kept_scans.proofs.Behind.{holders_with}
use Rattle.pfc_kept_scans.proofs.Again.{seen_again, callers_again}

not_empty : (facts : Facts) (homes : Homes) (entries : Entries) (store : Store) (stacks : Stacks) (table : Table) (h : Holders) (p room : ℕ)
    (level : LivingLevel) (w : ℤ) (latest : Communicating)
    (xs : List Activation) (es : List Entry) (a : Activity) (d : Descriptor) → AreCallers facts homes entries store table p room level w latest xs es
    → IsUnderWay facts homes entries store stacks table h p a d → ActivationsAre xs facts homes entries store stacks table h p a d
not_empty facts homes entries store stacks table h p room level w latest [] es a d callers is = absurd callers
not_empty facts homes entries store stacks table h p room level w latest (x ∷ xs) es a d callers is = is

module _ (facts : Facts) (m : Machine) (c : Config) (p : ℕ) (level : LivingLevel) (acting : IsActing facts m c p level) (level' : LivingLevel)
    (stacks : Stacks) (table : Table) (resources : List (Option ℕ)) (scan : Option MachineScan) (doing : Doing) (hand : Hand) (line : ℕ) where
  abbrev a : Activity
  a = activity_of (program_in facts) c p

  abbrev d : Descriptor
  d = descriptor_of m.descriptors p

  abbrev s : Stack
  s = stack_of m.stacks p

  abbrev h : Holders
  h = holders_in facts c

  abbrev h' : Holders
  h' = holders_with facts c resources

  abbrev a' : Activity
  a' = record a { doing = doing; hand = hand; line = line }

  abbrev d' : Descriptor
  d' = record d { scan = scan; line = line }

  -- it is at another address, with other operands, perhaps in sight of another
  pub record IsMine (to : ℕ) (left : List ℤ) (looks : Option ℕ) : Type 0 where
    pub same : own_again level'.setting ≡ own_again level.setting
    pub arms : level'.arms ≡ level.arms
    pub here : stack_of stacks p ≡ record s { at = to; operands = left; looks_from = looks }
    pub lenders : (r : ℕ) → IsLender c.table p r → at table.rows r ≡ at c.table.rows r
    pub unfinished : is_unfinished (at table.rows p) ≡ true
    pub holds : Holds h' p (at table.rows p) level'.setting.trial a.activations
    pub room : level'.setting.room ≤ s.room
    pub within : IsWithin facts level' (own_address level'.setting.trial to) d.communications
    pub shown : HandIs facts acting.homes (ticked table) acting.entries p level' to left d' (at table.rows p) doing hand
    pub trial : TrialIs level'.setting.trial facts acting.homes acting.entries c.store stacks (ticked table) p level' a.activations d'

  module _ (to : ℕ) (left : List ℤ) (looks : Option ℕ) (is : IsMine to left looks) where
    base_same : last_activation stacks p ≡ last_activation m.stacks p
    base_same = ap (λ (x : Stack). record { process = p; cell = x.base }) is.here

    room_same : (stack_of stacks p).room ≡ s.room
    room_same = ap (λ (x : Stack). x.room) is.here

    -- its level as it was, while it stands anew
    level_there : IsAtLevel facts acting.homes acting.entries c.store m.stacks (ticked table) h p a d level
    level_there =
        level_anew facts acting.homes acting.entries c.store m.stacks c.table (ticked table) p is.lenders h h d a level
        (holds_on h p (at table.rows p) level.setting.trial a.activations
        (subst (λ (x : Stand). Holds h p x level.setting.trial a.activations) acting.actor.ready acting.actor.stands.holds))
        acting.actor.stands

    level_then : IsAtLevel facts acting.homes acting.entries c.store stacks (ticked table) h' p a' d' level'
    level_then =
        let old = level_there in
        record {
          count = old.count;
          seen =
              subst (λ (r : Ref). IsSeenBy facts acting.homes acting.entries c.store (ticked table) p d.communications.callers (acting.entries p) (word_of r)
              a.display level') (sym base_same)
              (seen_again facts acting.homes acting.entries c.store (ticked table) p level level' is.same is.arms d.communications.callers (acting.entries p)
              (word_of (last_activation m.stacks p)) a.display old.seen);
          callers =
              subst (λ (r : Ref). AreCallers facts acting.homes acting.entries c.store (ticked table) p (stack_of stacks p).room level' (word_of r)
              d.communications a.activations (acting.entries p)) (sym base_same)
              (subst (λ n. AreCallers facts acting.homes acting.entries c.store (ticked table) p n level' (word_of (last_activation m.stacks p))
              d.communications a.activations (acting.entries p)) (sym room_same)
              (callers_again facts acting.homes acting.entries c.store (ticked table) p level level' is.same is.arms s.room
              (word_of (last_activation m.stacks p)) d.communications a.activations (acting.entries p) old.callers));
          room = subst (λ n. level'.setting.room ≤ n) (sym room_same) is.room;
          accepts = subst (λ (xs : List Arm). MayMeet (process_count facts) d.communications.room.meetings xs) (sym is.arms) old.accepts;
          met = old.met;
          holds = is.holds;
        }

    under_way : IsUnderWay facts acting.homes acting.entries c.store stacks (ticked table) h' p a' d'
    under_way =
        record {
          unfinished = is.unfinished;
          level = level';
          stands = level_then;
          within =
              subst (λ (x : Stack). IsWithin facts level' (own_address level'.setting.trial x.at) d.communications) (sym is.here) is.within;
          hand =
              subst (λ (x : Stack). HandIs facts acting.homes (ticked table) acting.entries p level' x.at x.operands d' (at table.rows p) doing hand)
              (sym is.here) is.shown;
          trial = is.trial;
        }

    pub mine_then : RepresentsProcess facts acting.homes acting.entries c.store stacks (ticked table) h' p a' d'
    mine_then =
        record {
          line = refl;
          spare = ap (λ (x : Stack). x.spare) is.here ∙ acting.actor.spare;
          activations =
              not_empty facts acting.homes acting.entries c.store stacks (ticked table) h' p (stack_of stacks p).room level'
              (word_of (last_activation stacks p)) d.communications a.activations (acting.entries p) a' d' level_then.callers under_way;
        }
