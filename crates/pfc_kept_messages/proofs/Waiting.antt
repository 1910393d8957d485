-- The process that acts finds no partner: it waits, and offers what it has made.
use Rattle.std.proofs.Common.{◌≡◌, ◌≢◌, ℕ, ◌+◌, ◌^◌, ◌<◌, ◌≤◌, ℤ, true, false, List, [], ◌∷◌, length, set, get_or, take, Option, Some, None, refl, sym, ap, ◌∙◌}
use Rattle.std.proofs.Common.{subst, arith, ◌⊎◌, inl, inr}
use Rattle.std.proofs.lemmas.List.{get_or-set_same, get_or-set_other, length-set}
use Rattle.pfc_code.specs.declared.images.Block.{Block as CodeBlock}
use Rattle.std.specs.Prelude.{is_some}
use Rattle.pfc_state.specs.Stands.{Stand, Is_ready, Waits, is_unfinished, ticket_of, due_of}
use Rattle.pfc_state.specs.declared.waits.Why.TheVariants.{Barred}
use Rattle.pfc_state.specs.declared.waits.Arm.{Arm as WaitArm}
use Rattle.pfc_state.specs.declared.waits.Arm.TheVariants.{Send as To, Receive as From, Accept as Entered}
use Rattle.pfc_world.specs.Partners.{plain_wait}
use Rattle.pfc_world.specs.Tables.{Table, at}
use Rattle.pfc_world.specs.Transitions.{blocked, ticked}
use Rattle.pfc_semantics.specs.Programs.{Block, Program}
use Rattle.pfc_semantics.specs.Remainders.{Context, Open, Remainder}
use Rattle.pfc_semantics.specs.Rewriting.{Doing, going}
use Rattle.pfc_semantics.specs.Configurations.{offering, Activation, Activity, Config, nobody, activity_of, at_work}
use Rattle.pfc_translation.specs.Images.{image_of}
use Rattle.pfc_stacks.specs.Refs.{word_of}
use Rattle.pfc_stacks.specs.Stacks.{Stack, Stacks, no_stack, stack_of, last_activation}
use Rattle.pfc_stacks.specs.Effects.{moved}
use Rattle.pfc_cells.specs.Homes.{Homes}
use Rattle.pfc_cells.specs.Memory.{Entry, Entries, MemoryIs}
use Rattle.pfc_semantics.specs.Store.{Store}
use Rattle.pfc_machines.specs.declared.machine.Machine.{Machine}
use Rattle.pfc_machines.specs.declared.descriptors.Descriptor.{Descriptor}
use Rattle.pfc_machines.specs.declared.alternatives.Alternative.{Alternative}
use Rattle.pfc_machines.specs.Communications.{Communicating, made}
use Rattle.pfc_machines.specs.Descriptors.{descriptor_by, descriptor_of, with_made, offering as offering_last}
use Rattle.pfc_machines.specs.Offers.{arm_of, arms_of, listed_arm}
use Rattle.pfc_standing_code.specs.Settings.{Trial, of_own, site_of}
use Rattle.pfc_standing_code.specs.Effects.{Arm}
use Rattle.pfc_standing_code.specs.Words.{IsChecked}
use Rattle.pfc_standing_code.specs.Performs.{IsOpen, Performs}
use Rattle.pfc_stack_laws.proofs.Moves.{hold_moved}
use Rattle.pfc_following_source.specs.Behind.{branch_of, BehindOpen}
use Rattle.pfc_representation.specs.Levels.{Facts, program_in, LivingLevel, block_of, IsBlockAt, is_met_by}
use Rattle.pfc_representation.specs.Rooms.{process_count, own_address, LeadsWithin, MayMeetBy}
use Rattle.pfc_representation.specs.Callers.{IsMadeOver, IsWithin, AreCallers}
use Rattle.pfc_representation.specs.Alternatives.{IsMade, AreMade, one_made}
use Rattle.pfc_representation.specs.Hands.{goes_by_itself, IsOffered, waits_plainly, Offers}
use Rattle.pfc_representation.specs.Keeping.{IsSameStack}
use Rattle.pfc_representation.specs.Holding.{Holders, holders_in, Holds, is_quiet, waits_at_coend, waits_for_monitor, waits_for_resource}
use Rattle.pfc_representation.specs.Trials.{TrialIs, HasTried}
use Rattle.pfc_representation.specs.Processes.{IsAtLevel, IsUnderWay, ActivationsAre, RepresentsProcess}
use Rattle.pfc_representation.specs.Acting.{IsActor, IsActing}
use Rattle.pfc_representation.proofs.Quiet.{actor_moved, others_moved}
use Rattle.pfc_kept_own_actions.proofs.Arrived.{has_setting, hold_store, stack_there}
use Rattle.pfc_kept_object_actions.proofs.Rows.{level_anew}
use Rattle.pfc_kept_object_actions.proofs.Change.{row_here, row_there}
use Rattle.pfc_kept_messages.proofs.Held.{WaitsForNone, holds_anew}
use Rattle.pfc_kept_messages.proofs.Others.{lender_waits, IsBarredStand, IsQuietAround, stays_kept}
use Rattle.pfc_kept_messages.proofs.Rearmed.{AreInstead, level_again}
use Rattle.pfc_kept_messages.proofs.Whole.{IsNewStand, IsBehind}

either : (q p : ℕ) → (q ≡ p) ⊎ (q ≢ p)
either q p = grind arith

pub not_empty : (facts : Facts) (homes : Homes) (entries : Entries) (store : Store) (stacks : Stacks) (table : Table) (h : Holders) (p room : ℕ)
    (level : LivingLevel) (w : ℤ) (latest : Communicating)
    (xs : List Activation) (es : List Entry) (a : Activity) (d : Descriptor) → AreCallers facts homes entries store table p room level w latest xs es
    → IsUnderWay facts homes entries store stacks table h p a d → ActivationsAre xs facts homes entries store stacks table h p a d
not_empty facts homes entries store stacks table h p room level w latest [] es a d callers is = absurd callers
not_empty facts homes entries store stacks table h p room level w latest (x ∷ xs) es a d callers is = is

-- ## A plain wait

met_not_ready : (s : Stand) (q : ℕ) → s ≡ Is_ready → is_met_by s q → ⊥
met_not_ready s q ready met = (let none : is_met_by Is_ready q = subst (λ (x : Stand). is_met_by x q) ready met in none)

barred_not_ready : (s : Stand) → IsBarredStand s → s ≡ Is_ready → ⊥
barred_not_ready s barred ready = (let no : Waits (Barred barred.resource barred.procedure) barred.ticket [] ≡ Is_ready = sym barred.is ∙ ready in cc)

no_due : (w : WaitArm) (n : ℕ) → due_of (Waits (plain_wait w) n []) ≡ None
no_due (To c) n = refl
no_due (From c) n = refl
no_due (Entered e) n = refl

none_some : (t : ℕ) (P : Type 0) → None ≡ Some t → P
none_some t P h = absurd (let no : None ≡ Some t = h in cc)

same_stack : (s : Stack) → IsSameStack s s
same_stack s = record { at = refl; base = refl; operands = refl; room = refl; spare = refl; looks_from = refl }

-- ## The process

module _ (facts : Facts) (m : Machine) (c : Config) (p : ℕ) (level : LivingLevel) (acting : IsActing facts m c p level) (own : level.setting.trial ≡ of_own)
    (none : level.arms ≡ []) where
  abbrev g : Program
  g = program_in facts

  abbrev a : Activity
  a = activity_of g c p

  abbrev d : Descriptor
  d = descriptor_of m.descriptors p

  abbrev h : Holders
  h = holders_in facts c

  -- its alternative, as the code laws have it and as the machine keeps it, and what both do with it
  pub record IsAlone (arm : Arm) (w : WaitArm) (alternative : Alternative) (message : List ℤ) (to : ℕ) (left : List ℤ) (x : Context) (o : Open)
      (k : Remainder) : Type 0 where
    pub is_made : IsMade d.activations arm alternative message
    pub listed : arm_of alternative.offer ≡ Some w
    pub leads : (n : ℕ) (b : CodeBlock) → IsBlockAt g (image_of facts.tree).blocks n (block_of level) b → LeadsWithin facts n arm.by
    pub accepts : MayMeetBy (process_count facts) d.communications.room.meetings arm.by
    pub within : IsWithin facts (record level { arms = arm ∷ [] }) to (made d.communications alternative message)
    pub block : Block
    pub checked : IsChecked level.setting block x.env
    pub open_one : IsOpen level.setting (site_of level.setting block x) (length left) o o.offer arm (λ end. Performs level.setting block x.env end left [] k)
    pub behind : BehindOpen level.setting block left x o o.offer (branch_of arm.by) k
    pub few : length left ≤ level.setting.room

  module _ (arm : Arm) (w : WaitArm) (alternative : Alternative) (message : List ℤ) (to : ℕ) (left : List ℤ) (x : Context) (o : Open) (k : Remainder)
      (alone : IsAlone arm w alternative message to left x o k) (line : ℕ) where
    abbrev latest : Communicating
    latest = made d.communications alternative message

    abbrev level' : LivingLevel
    level' = record level { arms = arm ∷ [] }

    abbrev stand : Stand
    stand = Waits (plain_wait w) (c.table.done + 1) []

    abbrev table : Table
    table = blocked c.table p (plain_wait w) []

    abbrev stacks : Stacks
    stacks = moved m.stacks p to left

    abbrev doing : Doing
    doing = going x.env k

    abbrev a' : Activity
    a' = record a { doing = doing; hand = offering x (o ∷ []) k; line = line }

    abbrev d' : Descriptor
    d' = record d { line = line; communications = latest; offered = 1 }

    there : p < length m.stacks
    there = stack_there facts m c p level acting

    row_count : length c.table.rows ≡ length c.activities
    row_count = acting.alike.words.rows

    row_is : at (ticked table).rows p ≡ stand
    row_is = row_here c.table.rows p stand (subst (λ n. p < n) (sym row_count) acting.actor.process)

    row_other : (q : ℕ) → q ≢ p → at (ticked table).rows q ≡ at c.table.rows q
    row_other q apart = row_there c.table.rows p q stand apart

    unmet : (r s : ℕ) → is_met_by (at c.table.rows r) s → r ≢ p
    unmet r s met same = met_not_ready (at c.table.rows r) s (ap (λ n. at c.table.rows n) same ∙ acting.actor.ready) met

    moved_here : stack_of stacks p ≡ record (stack_of m.stacks p) { at = to; operands = left }
    moved_here = get_or-set_same m.stacks p (record (stack_of m.stacks p) { at = to; operands = left }) no_stack there

    -- ### Its level

    more_made : (earlier : Communicating) → IsMadeOver d.activations level earlier d.communications → IsMadeOver d.activations level' earlier latest
    more_made earlier (room, callers, are) = (
      room,
      callers,
      one_made [] d.communications.alternatives d.communications.words arm alternative message
          (subst (λ (arms : List Arm). AreMade d.activations earlier.alternatives earlier.words arms d.communications.alternatives d.communications.words) none
          are)
          alone.is_made,
    )

    instead : AreInstead facts acting.homes acting.entries c.store (ticked table) p level (arm ∷ []) d.activations d.communications latest
    instead =
        record {
          room = refl;
          callers = refl;
          made = more_made;
          leads = λ n b block old. (alone.leads n b block, tt);
          accepts = λ old. (alone.accepts, tt);
        }

    waits_for_none : (s : Stand) → s ≡ Is_ready → WaitsForNone h.owners s
    waits_for_none s ready =
        record {
          monitors = λ n. ap (λ (y : Stand). waits_for_monitor h.owners n y) ready;
          resources = λ n. ap (λ (y : Stand). waits_for_resource n y) ready;
        }

    abbrev m1 : Machine
    m1 = record m { stacks = stacks }

    actor : IsActor facts acting.homes acting.entries m1 c p level
    actor = actor_moved facts m c p level to left acting

    level_there : IsAtLevel facts acting.homes acting.entries c.store stacks (ticked table) h p a d level
    level_there =
        level_anew facts acting.homes acting.entries c.store stacks c.table (ticked table) p
        (λ r lender. let waits = lender_waits c.table p r lender in row_other r (unmet r waits.0 waits.1)) h h d a level
        (subst (λ (s : Stand). Holds h p s level.setting.trial a.activations) (sym row_is)
        (holds_anew h p (at c.table.rows p) stand level.setting.trial a.activations (waits_for_none (at c.table.rows p) acting.actor.ready) actor.stands.holds))
        actor.stands

    level_then : IsAtLevel facts acting.homes acting.entries c.store stacks (ticked table) h p a' d' level'
    level_then =
        level_again facts acting.homes acting.entries c.store (ticked table) p level (arm ∷ []) stacks stacks h a d latest instead refl refl doing
        (offering x (o ∷ []) k) line line 1
        level_there

    -- ### What it shows

    listed_is : arms_of (take 1 latest.alternatives) ≡ w ∷ []
    listed_is = ap (λ (y : Option WaitArm). listed_arm y) alone.listed

    stays : goes_by_itself stand ≡ true → ⊥
    stays goes = (let no : false ≡ true = ap (λ (y : Option ℕ). is_some y) (sym (no_due w (c.table.done + 1))) ∙ goes in cc)

    offers : Offers level' to left d' stand doing x (o ∷ []) k
    offers =
        record {
          own = own;
          block = alone.block;
          beside = alone.checked.beside;
          checked = alone.checked;
          open_ones = (alone.open_one, tt);
          behind = (alone.behind, tt);
          count = refl;
          offered = subst (λ (ws : List WaitArm). IsOffered stand (o ∷ []) ws) (sym listed_is) (waits_plainly o w (c.table.done + 1));
          few = alone.few;
          alone = λ goes. absurd (stays goes);
        }

    at_own : ((stack_of stacks p).looks_from ≡ None) × (d.scan ≡ None)
    at_own = which actor.trial
      where
        which : TrialIs level.setting.trial facts acting.homes acting.entries c.store stacks c.table p level a.activations d
            ⊎ HasTried level.setting.trial facts (stack_of stacks p) level a.activations d → ((stack_of stacks p).looks_from ≡ None) × (d.scan ≡ None)
        which (inl is) = subst (λ (t : Trial). TrialIs t facts acting.homes acting.entries c.store stacks c.table p level a.activations d) own is
        which (inr is) = absurd (let no : ⊥ = subst (λ (t : Trial). HasTried t facts (stack_of stacks p) level a.activations d) own is in no)

    under_way : IsUnderWay facts acting.homes acting.entries c.store stacks (ticked table) h p a' d'
    under_way =
        record {
          unfinished = ap is_unfinished row_is;
          level = level';
          stands = level_then;
          within =
              subst (λ (t : Trial). IsWithin facts level' (own_address t (stack_of stacks p).at) latest) (sym own)
              (subst (λ (s : Stack). IsWithin facts level' s.at latest) (sym moved_here) alone.within);
          hand =
              inl (subst (λ (s : Stand). Offers level' (stack_of stacks p).at (stack_of stacks p).operands d' s doing x (o ∷ []) k) (sym row_is)
              (subst (λ (s : Stack). Offers level' s.at s.operands d' stand doing x (o ∷ []) k) (sym moved_here) offers));
          trial = subst (λ (t : Trial). TrialIs t facts acting.homes acting.entries c.store stacks (ticked table) p level' a'.activations d') (sym own) at_own;
        }

    process_here : RepresentsProcess facts acting.homes acting.entries c.store stacks (ticked table) h p a' d'
    process_here =
        record {
          line = refl;
          spare = actor.spare;
          activations =
              not_empty facts acting.homes acting.entries c.store stacks (ticked table) h p (stack_of stacks p).room level'
              (word_of (last_activation stacks p)) latest
              a.activations (acting.entries p) a' d' level_then.callers under_way;
        }

    -- ### The others

    around : IsQuietAround facts acting.homes acting.entries c.store c.store stacks stacks c.table (ticked table)
    around =
        record {
          like = λ keeps. record { at_home = λ n home at. at; living = λ r e kept lives. lives; references = λ n j home t kept at laid. refl };
          met = λ r s met. row_other r (unmet r s met);
          barred = λ r barred.
              record {
                stack = same_stack (stack_of stacks r);
                row = row_other r (λ same. barred_not_ready (at c.table.rows r) barred (ap (λ n. at c.table.rows n) same ∙ acting.actor.ready));
              };
        }

    other_here : (q : ℕ) → q ≢ p → q < length c.activities
        → RepresentsProcess facts acting.homes acting.entries c.store stacks (ticked table) h q (activity_of g c q) (descriptor_of m.descriptors q)
    other_here q apart within =
        stays_kept facts acting.homes acting.entries c.store c.store stacks stacks c.table (ticked table) h around q (activity_of g c q)
        (descriptor_of m.descriptors q)
        (record { stack = same_stack (stack_of stacks q); row = row_other q apart }) (others_moved facts m c p level to left acting q within apart)

    -- ### Lists

    abbrev working : Activity
    working = at_work a doing

    abbrev once : List Activity
    once = set c.activities p working

    abbrev shown : Activity
    shown = record (get_or once p (nobody g)) { hand = offering x (o ∷ []) k }

    abbrev pub activities : List Activity
    activities = set once p shown

    abbrev making : Descriptor
    making = with_made d alternative message

    abbrev made_once : List Descriptor
    made_once = set m.descriptors p making

    abbrev showing_one : Descriptor
    showing_one = offering_last 1 (descriptor_of made_once p)

    abbrev pub descriptors : List Descriptor
    descriptors = set made_once p showing_one

    once_size : length once ≡ length c.activities
    once_size = length-set c.activities p working

    activity_here : record (get_or activities p (nobody g)) { line = line } ≡ a'
    activity_here =
        ap (λ (y : Activity). record y { line = line }) (get_or-set_same once p shown (nobody g) (subst (λ n. p < n) (sym once_size) acting.actor.process))
        ∙ ap (λ (y : Activity). record y { hand = offering x (o ∷ []) k; line = line }) (get_or-set_same c.activities p working (nobody g) acting.actor.process)

    activity_there : (q : ℕ) → q ≢ p → get_or activities q (nobody g) ≡ activity_of g c q
    activity_there q apart = get_or-set_other once p q shown (nobody g) apart ∙ get_or-set_other c.activities p q working (nobody g) apart

    in_descriptors : p < length m.descriptors
    in_descriptors = subst (λ n. p < n) (sym acting.alike.words.descriptors) acting.actor.process

    made_size : length made_once ≡ length m.descriptors
    made_size = length-set m.descriptors p making

    descriptor_here : record (descriptor_of descriptors p) { line = line } ≡ d'
    descriptor_here =
        ap (λ (y : Descriptor). record y { line = line })
        (get_or-set_same made_once p showing_one (descriptor_by 0) (subst (λ n. p < n) (sym made_size) in_descriptors))
        ∙ ap (λ (y : Descriptor). record y { offered = 1; line = line }) (get_or-set_same m.descriptors p making (descriptor_by 0) in_descriptors)

    descriptor_there : (q : ℕ) → q ≢ p → descriptor_of descriptors q ≡ descriptor_of m.descriptors q
    descriptor_there q apart =
        get_or-set_other made_once p q showing_one (descriptor_by 0) apart ∙ get_or-set_other m.descriptors p q making (descriptor_by 0) apart

    -- ### All of it

    new_stand : IsNewStand c (at c.table.rows p) (at table.rows p)
    new_stand =
        record {
          unfinished = ap is_unfinished row_is;
          awake = ap is_quiet acting.actor.ready;
          no_coend = ap waits_at_coend acting.actor.ready;
          ticket = λ t is.
              let same : c.table.done + 1 ≡ t = (let both : Some (c.table.done + 1) ≡ Some t = ap ticket_of (sym row_is) ∙ is in cc) in
              subst (λ n. n ≤ c.table.done + 1) same (grind arith);
          due = λ t is. none_some t (t ≤ 10 ^ 15) (sym (no_due w (c.table.done + 1)) ∙ ap due_of (sym row_is) ∙ is);
        }

    stands_then : (q : ℕ) → (q ≡ p) ⊎ (q ≢ p) → (at table.rows q ≡ at c.table.rows q) ⊎ IsNewStand c (at c.table.rows q) (at table.rows q)
    stands_then q (inl same) = inr (subst (λ n. IsNewStand c (at c.table.rows n) (at table.rows n)) (sym same) new_stand)
    stands_then q (inr apart) = inl (row_other q apart)

    pub waits_behind : IsBehind facts m c p level acting line activities descriptors c.store stacks table
    waits_behind =
        let held = hold_moved level.setting acting.homes acting.entries c.store m.stacks p to left there (hold_store facts m c p level acting) in
        let has = has_setting facts m c p level acting in
        record {
          activity_count = length-set once p shown ∙ once_size;
          descriptor_count = length-set made_once p showing_one ∙ made_size;
          stack_count = length-set m.stacks p (record (stack_of m.stacks p) { at = to; operands = left });
          row_count = length-set c.table.rows p stand;
          memory = subst (λ (y : Program). MemoryIs y acting.homes acting.entries c.store stacks) has.image.program held.memory;
          few = held.few;
          objects = acting.alike.holds.objects;
          rests = refl;
          done = refl;
          moment = refl;
          stands = λ q. stands_then q (either q p);
          mine =
              subst (λ (y : Activity). RepresentsProcess facts acting.homes acting.entries c.store stacks (ticked table) h p y
              (record (descriptor_of descriptors p) { line = line }))
              (sym activity_here)
              (subst (λ (e : Descriptor). RepresentsProcess facts acting.homes acting.entries c.store stacks (ticked table) h p a' e)
              (sym descriptor_here) process_here);
          others = λ q apart within.
              subst (λ (y : Activity). RepresentsProcess facts acting.homes acting.entries c.store stacks (ticked table) h q y (descriptor_of descriptors q))
              (sym (activity_there q apart))
              (subst (λ (e : Descriptor). RepresentsProcess facts acting.homes acting.entries c.store stacks (ticked table) h q (activity_of g c q) e)
              (sym (descriptor_there q apart))
              (other_here q apart within));
        }
