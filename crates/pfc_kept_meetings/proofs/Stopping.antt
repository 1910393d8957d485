-- The process that acts goes on to an address, and waits there, with something to show; nothing else changes.
use Rattle.std.proofs.Common.{◌≡◌, ◌≢◌, ℕ, ◌+◌, ◌^◌, ◌<◌, ◌≤◌, ℤ, List, [], length, set, get_or, Some, None, refl, sym, ap, ◌∙◌, subst, arith, ◌⊎◌, inl, inr}
use Rattle.std.proofs.lemmas.List.{get_or-set_same, get_or-set_other, length-set}
use Rattle.pfc_state.specs.Stands.{Stand, Is_ready, Waits, is_unfinished, ticket_of, due_of}
use Rattle.pfc_state.specs.Waits.{due_of_wait}
use Rattle.pfc_state.specs.declared.waits.Why.{Why}
use Rattle.pfc_state.specs.declared.waits.Why.TheVariants.{Barred}
use Rattle.pfc_world.specs.Tables.{Table, at}
use Rattle.pfc_world.specs.Transitions.{blocked, ticked}
use Rattle.pfc_semantics.specs.Programs.{Program}
use Rattle.pfc_semantics.specs.Rewriting.{Doing}
use Rattle.pfc_semantics.specs.Configurations.{Hand, Activity, Config, nobody, activity_of, at_work}
use Rattle.pfc_stacks.specs.Refs.{word_of}
use Rattle.pfc_stacks.specs.Stacks.{Stack, Stacks, no_stack, stack_of, last_activation}
use Rattle.pfc_stacks.specs.Effects.{moved}
use Rattle.pfc_cells.specs.Memory.{MemoryIs}
use Rattle.pfc_machines.specs.declared.machine.Machine.{Machine}
use Rattle.pfc_machines.specs.declared.descriptors.Descriptor.{Descriptor}
use Rattle.pfc_machines.specs.Descriptors.{descriptor_of}
use Rattle.pfc_standing_code.specs.Settings.{Trial, of_own}
use Rattle.pfc_stack_laws.proofs.Moves.{hold_moved}
use Rattle.pfc_representation.specs.Levels.{Facts, program_in, LivingLevel, is_met_by}
use Rattle.pfc_representation.specs.Rooms.{own_address}
use Rattle.pfc_representation.specs.Callers.{IsWithin}
use Rattle.pfc_representation.specs.Hands.{HandIs}
use Rattle.pfc_representation.specs.Keeping.{IsSameStack}
use Rattle.pfc_representation.specs.Holding.{Holders, holders_in, Holds, is_quiet, waits_at_coend, waits_for_monitor, waits_for_resource}
use Rattle.pfc_representation.specs.Trials.{TrialIs, HasTried}
use Rattle.pfc_representation.specs.Processes.{IsAtLevel, IsUnderWay, RepresentsProcess}
use Rattle.pfc_representation.specs.Acting.{IsActor, IsActing}
use Rattle.pfc_representation.proofs.Quiet.{actor_moved, others_moved}
use Rattle.pfc_kept_own_actions.proofs.Arrived.{has_setting, hold_store, stack_there}
use Rattle.pfc_kept_object_actions.proofs.Rows.{level_anew}
use Rattle.pfc_kept_object_actions.proofs.Change.{row_here, row_there}
use Rattle.pfc_kept_messages.proofs.Held.{WaitsForNone, holds_anew}
use Rattle.pfc_kept_messages.proofs.Others.{lender_waits, IsBarredStand, IsQuietAround, stays_kept}
use Rattle.pfc_kept_messages.proofs.Waiting.{not_empty}
use Rattle.pfc_kept_messages.proofs.Whole.{IsNewStand, IsBehind}
use Rattle.pfc_kept_meetings.proofs.Lenders.{ready_unmet}

either : (q p : ℕ) → (q ≡ p) ⊎ (q ≢ p)
either q p = grind arith

same_stack : (s : Stack) → IsSameStack s s
same_stack s = record { at = refl; base = refl; operands = refl; room = refl; spare = refl; looks_from = refl }

barred_waits : (s : Stand) → IsBarredStand s → s ≡ Is_ready → ⊥
barred_waits s barred ready = (let no : Waits (Barred barred.resource barred.procedure) barred.ticket [] ≡ Is_ready = sym barred.is ∙ ready in cc)

module _ (facts : Facts) (m : Machine) (c : Config) (p : ℕ) (level : LivingLevel) (acting : IsActing facts m c p level) (own : level.setting.trial ≡ of_own)
    (why : Why) (undue : (t : ℕ) → due_of_wait why ≡ Some t → t ≤ 10 ^ 15) where
  abbrev g : Program
  g = program_in facts

  abbrev h : Holders
  h = holders_in facts c

  abbrev a : Activity
  a = activity_of g c p

  abbrev d : Descriptor
  d = descriptor_of m.descriptors p

  abbrev stand : Stand
  stand = Waits why (c.table.done + 1) []

  abbrev pub table : Table
  table = blocked c.table p why []

  there : p < length m.stacks
  there = stack_there facts m c p level acting

  row_is : at (ticked table).rows p ≡ stand
  row_is = row_here c.table.rows p stand (subst (λ n. p < n) (sym acting.alike.words.rows) acting.actor.process)

  row_other : (q : ℕ) → q ≢ p → at (ticked table).rows q ≡ at c.table.rows q
  row_other q apart = row_there c.table.rows p q stand apart

  -- who waits in a rendezvous is another
  unmet : (r s : ℕ) → is_met_by (at c.table.rows r) s → r ≢ p
  unmet r s met same = ready_unmet (at c.table.rows r) s (ap (λ n. at c.table.rows n) same ∙ acting.actor.ready) met

  pub met_stays : (r s : ℕ) → is_met_by (at c.table.rows r) s → at (ticked table).rows r ≡ at c.table.rows r
  met_stays r s met = row_other r (unmet r s met)

  module _ (to : ℕ) (left : List ℤ) (doing : Doing) (hand : Hand) (line : ℕ) (within : IsWithin facts level to d.communications)
      (shows : HandIs facts acting.homes (ticked table) acting.entries p level to left (record d { line = line }) stand doing hand) where
    abbrev pub stacks : Stacks
    stacks = moved m.stacks p to left

    abbrev m1 : Machine
    m1 = record m { stacks = stacks }

    abbrev a' : Activity
    a' = record a { doing = doing; hand = hand; line = line }

    abbrev d' : Descriptor
    d' = record d { line = line }

    moved_here : stack_of stacks p ≡ record (stack_of m.stacks p) { at = to; operands = left }
    moved_here = get_or-set_same m.stacks p (record (stack_of m.stacks p) { at = to; operands = left }) no_stack there

    actor : IsActor facts acting.homes acting.entries m1 c p level
    actor = actor_moved facts m c p level to left acting

    waits_for_none : (s : Stand) → s ≡ Is_ready → WaitsForNone h.owners s
    waits_for_none s ready =
        record {
          monitors = λ n. ap (λ (y : Stand). waits_for_monitor h.owners n y) ready;
          resources = λ n. ap (λ (y : Stand). waits_for_resource n y) ready;
        }

    level_there : IsAtLevel facts acting.homes acting.entries c.store stacks (ticked table) h p a d level
    level_there =
        level_anew facts acting.homes acting.entries c.store stacks c.table (ticked table) p
        (λ r lender. let waits = lender_waits c.table p r lender in met_stays r waits.0 waits.1) h h d a level
        (subst (λ (s : Stand). Holds h p s level.setting.trial a.activations) (sym row_is)
        (holds_anew h p (at c.table.rows p) stand level.setting.trial a.activations (waits_for_none (at c.table.rows p) acting.actor.ready) actor.stands.holds))
        actor.stands

    level_then : IsAtLevel facts acting.homes acting.entries c.store stacks (ticked table) h p a' d' level
    level_then =
        let old = level_there in
        record { count = old.count; seen = old.seen; callers = old.callers; room = old.room; accepts = old.accepts; met = old.met; holds = old.holds }

    at_own : ((stack_of stacks p).looks_from ≡ None) × (d.scan ≡ None)
    at_own = which actor.trial
      where
        which : TrialIs level.setting.trial facts acting.homes acting.entries c.store stacks c.table p level a.activations d
            ⊎ HasTried level.setting.trial facts (stack_of stacks p) level a.activations d → ((stack_of stacks p).looks_from ≡ None) × (d.scan ≡ None)
        which (inl is) = subst (λ (t : Trial). TrialIs t facts acting.homes acting.entries c.store stacks c.table p level a.activations d) own is
        which (inr is) = absurd (let no : ⊥ = subst (λ (t : Trial). HasTried t facts (stack_of stacks p) level a.activations d) own is in no)

    under_way : IsUnderWay facts acting.homes acting.entries c.store stacks (ticked table) h p a' d'
    under_way =
        record {
          unfinished = ap is_unfinished row_is;
          level = level;
          stands = level_then;
          within =
              subst (λ (t : Trial). IsWithin facts level (own_address t (stack_of stacks p).at) d.communications) (sym own)
              (subst (λ (s : Stack). IsWithin facts level s.at d.communications) (sym moved_here) within);
          hand =
              subst (λ (s : Stand). HandIs facts acting.homes (ticked table) acting.entries p level (stack_of stacks p).at (stack_of stacks p).operands d' s
              doing hand) (sym row_is)
              (subst (λ (s : Stack). HandIs facts acting.homes (ticked table) acting.entries p level s.at s.operands d' stand doing hand) (sym moved_here)
              shows);
          trial = subst (λ (t : Trial). TrialIs t facts acting.homes acting.entries c.store stacks (ticked table) p level a'.activations d') (sym own) at_own;
        }

    mine : RepresentsProcess facts acting.homes acting.entries c.store stacks (ticked table) h p a' d'
    mine =
        record {
          line = refl;
          spare = actor.spare;
          activations =
              not_empty facts acting.homes acting.entries c.store stacks (ticked table) h p (stack_of stacks p).room level
              (word_of (last_activation stacks p)) d.communications a.activations (acting.entries p) a' d' level_then.callers under_way;
        }

    -- ### The others

    around : IsQuietAround facts acting.homes acting.entries c.store c.store stacks stacks c.table (ticked table)
    around =
        record {
          like = λ keeps. record { at_home = λ n home at. at; living = λ r e kept lives. lives; references = λ n j home t kept at laid. refl };
          met = met_stays;
          barred = λ r barred.
              record {
                stack = same_stack (stack_of stacks r);
                row = row_other r (λ same. barred_waits (at c.table.rows r) barred (ap (λ n. at c.table.rows n) same ∙ acting.actor.ready));
              };
        }

    other_kept : (q : ℕ) → q ≢ p → q < length c.activities
        → RepresentsProcess facts acting.homes acting.entries c.store stacks (ticked table) h q (activity_of g c q) (descriptor_of m.descriptors q)
    other_kept q apart inside =
        stays_kept facts acting.homes acting.entries c.store c.store stacks stacks c.table (ticked table) h around q (activity_of g c q)
        (descriptor_of m.descriptors q)
        (record { stack = same_stack (stack_of stacks q); row = row_other q apart }) (others_moved facts m c p level to left acting q inside apart)

    -- ### All of it

    abbrev working : Activity
    working = at_work a doing

    abbrev once : List Activity
    once = set c.activities p working

    abbrev shown : Activity
    shown = record (get_or once p (nobody g)) { hand = hand }

    abbrev pub activities : List Activity
    activities = set once p shown

    once_size : length once ≡ length c.activities
    once_size = length-set c.activities p working

    activity_here : record (get_or activities p (nobody g)) { line = line } ≡ a'
    activity_here =
        ap (λ (y : Activity). record y { line = line }) (get_or-set_same once p shown (nobody g) (subst (λ n. p < n) (sym once_size) acting.actor.process))
        ∙ ap (λ (y : Activity). record y { hand = hand; line = line }) (get_or-set_same c.activities p working (nobody g) acting.actor.process)

    activity_there : (q : ℕ) → q ≢ p → get_or activities q (nobody g) ≡ activity_of g c q
    activity_there q apart = get_or-set_other once p q shown (nobody g) apart ∙ get_or-set_other c.activities p q working (nobody g) apart

    new_stand : IsNewStand c (at c.table.rows p) (at table.rows p)
    new_stand =
        record {
          unfinished = ap is_unfinished row_is;
          awake = ap is_quiet acting.actor.ready;
          no_coend = ap waits_at_coend acting.actor.ready;
          ticket = λ t is.
              let same : c.table.done + 1 ≡ t = (let both : Some (c.table.done + 1) ≡ Some t = ap ticket_of (sym row_is) ∙ is in cc) in
              subst (λ n. n ≤ c.table.done + 1) same (grind arith);
          due = λ t is. undue t (ap due_of (sym row_is) ∙ is);
        }

    stands_as : (q : ℕ) → (q ≡ p) ⊎ (q ≢ p) → (at table.rows q ≡ at c.table.rows q) ⊎ IsNewStand c (at c.table.rows q) (at table.rows q)
    stands_as q (inl same) = inr (subst (λ n. IsNewStand c (at c.table.rows n) (at table.rows n)) (sym same) new_stand)
    stands_as q (inr apart) = inl (row_other q apart)

    pub stops_behind : IsBehind facts m c p level acting line activities m.descriptors c.store stacks table
    stops_behind =
        let held = hold_moved level.setting acting.homes acting.entries c.store m.stacks p to left there (hold_store facts m c p level acting) in
        let has = has_setting facts m c p level acting in
        record {
          activity_count = length-set once p shown ∙ once_size;
          descriptor_count = refl;
          stack_count = length-set m.stacks p (record (stack_of m.stacks p) { at = to; operands = left });
          row_count = length-set c.table.rows p stand;
          memory = subst (λ (y : Program). MemoryIs y acting.homes acting.entries c.store stacks) has.image.program held.memory;
          few = held.few;
          objects = acting.alike.holds.objects;
          rests = refl;
          done = refl;
          moment = refl;
          stands = λ q. stands_as q (either q p);
          mine =
              subst (λ (y : Activity). RepresentsProcess facts acting.homes acting.entries c.store stacks (ticked table) h p y d') (sym activity_here) mine;
          others = λ q apart inside.
              subst (λ (y : Activity). RepresentsProcess facts acting.homes acting.entries c.store stacks (ticked table) h q y (descriptor_of m.descriptors q))
              (sym (activity_there q apart)) (other_kept q apart inside);
        }
