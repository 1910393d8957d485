-- A process goes on at its level, on its own cells nothing changes, and perhaps it waits then, frees others, or counts and holders change.
use Rattle.std.proofs.Common.{◌≡◌, ◌≢◌, ℕ, ◌+◌, ◌^◌, ◌<◌, ◌≤◌, ℤ, true, false, List, [], ◌∷◌, length, set, Option, Some, None, refl, sym, ap}
use Rattle.std.proofs.Common.{◌∙◌, subst, arith, ◌⊎◌, inl, inr}
use Rattle.std.proofs.lemmas.List.{get_or-set_same, get_or-set_other, length-set}
use Rattle.pfc_state.specs.Stands.{Stand, Is_created, Is_ready, Waits, is_unfinished, ticket_of, due_of}
use Rattle.pfc_state.specs.declared.waits.Why.{Why}
use Rattle.pfc_state.specs.declared.waits.Why.TheVariants.{Send, Receive, Accept, Select, Call, Barred, Meeting}
use Rattle.pfc_world.specs.Tables.{Table, at}
use Rattle.pfc_world.specs.Transitions.{ticked}
use Rattle.pfc_semantics.specs.Programs.{Program}
use Rattle.pfc_semantics.specs.Rewriting.{Doing}
use Rattle.pfc_semantics.specs.Store.{Store}
use Rattle.pfc_semantics.specs.Configurations.{Activation, Activity, Config, nobody, activity_of, at_work, doing_next, done_at}
use Rattle.pfc_stacks.specs.Refs.{word_of}
use Rattle.pfc_stacks.specs.Stacks.{Stack, Stacks, no_stack, stack_of, last_activation}
use Rattle.pfc_stacks.specs.Effects.{moved}
use Rattle.pfc_cells.specs.Homes.{Homes}
use Rattle.pfc_cells.specs.Memory.{Entry, Entries}
use Rattle.pfc_machines.specs.declared.machine.Machine.{Machine}
use Rattle.pfc_monitor.specs.declared.monitors.Monitors.{Monitors}
use Rattle.pfc_machines.specs.declared.descriptors.Descriptor.{Descriptor}
use Rattle.pfc_machines.specs.Communications.{Communicating}
use Rattle.pfc_machines.specs.Descriptors.{descriptor_by, descriptor_of}
use Rattle.pfc_machines.specs.Quiet.{tried_in}
use Rattle.pfc_machine_acts.specs.Acting.{acted}
use Rattle.pfc_standing_code.specs.Settings.{Trial, of_own, of_turn, of_another}
use Rattle.pfc_representation.specs.Levels.{Facts, program_in, LivingLevel, DoesOn, is_met_by}
use Rattle.pfc_representation.specs.Rooms.{own_address}
use Rattle.pfc_representation.specs.Callers.{IsWithin, AreCallers}
use Rattle.pfc_representation.specs.Hands.{shows_nothing, shows_nothing_at}
use Rattle.pfc_representation.specs.Holding.{Holders, holders_in, Holds, is_quiet, waits_at_coend}
use Rattle.pfc_representation.specs.Trials.{TrialIs, HasTried}
use Rattle.pfc_representation.specs.Processes.{IsAtLevel, IsUnderWay, ActivationsAre, RepresentsProcess}
use Rattle.pfc_representation.specs.Objects.{AreOfKinds}
use Rattle.pfc_representation.specs.Machines.{SharesWords, machine_table, HoldsStore, IsBetweenActions, AreAlike, Represents}
use Rattle.pfc_representation.specs.Keeping.{IsSameStack, IsUntouched, HoldsStill, IsLeftAlone, IsLender, meets, meets_lender}
use Rattle.pfc_representation.specs.Acting.{IsActing}
use Rattle.pfc_representation.proofs.Kept.{process_still}
use Rattle.pfc_representation.proofs.Quiet.{acting_moved}
use Rattle.pfc_kept_object_actions.specs.Freed.{StandsStill, IsFreed, may_be_freed, may_be_freed_at, IsSameOrLetGo}
use Rattle.pfc_kept_object_actions.proofs.Rows.{level_anew, trial_anew}
use Rattle.pfc_kept_object_actions.proofs.Freed.{process_freed}
use Rattle.pfc_kept_object_actions.proofs.Tests.{either}

-- ## Who stands where it stood

-- a lender waits in a rendezvous
lender_waits : (table : Table) (q r : ℕ) → IsLender table q r → (s : ℕ) × is_met_by (at table.rows r) s
lender_waits table _ _ (meets q r met) = (q, met)
lender_waits table _ _ (meets_lender q s r met inner) = lender_waits table s r inner

met_not_ready : (s : Stand) (q : ℕ) → s ≡ Is_ready → is_met_by s q → ⊥
met_not_ready s q ready met = (let none : is_met_by Is_ready q = subst (λ (x : Stand). is_met_by x q) ready met in none)

met_not_freed : (s : Stand) (q : ℕ) → may_be_freed s ≡ true → is_met_by s q → ⊥
met_not_freed (Waits (Meeting owner) ticket arms) q freed met = cc
met_not_freed s q freed met = absurd met

-- whose guard is tried is barred
record IsBarredAt (s : Stand) : Type 0 where
  resource : ℕ
  procedure : ℕ
  ticket : ℕ
  is : s ≡ Waits (Barred resource procedure) ticket []

barred_not_ready : (s : Stand) → IsBarredAt s → s ≡ Is_ready → ⊥
barred_not_ready s barred ready = (let no : Waits (Barred barred.resource barred.procedure) barred.ticket [] ≡ Is_ready = sym barred.is ∙ ready in cc)

barred_not_freed : (s : Stand) → IsBarredAt s → may_be_freed s ≡ true → ⊥
barred_not_freed s barred freed = (let no : false ≡ true = ap may_be_freed (sym barred.is) ∙ freed in cc)

module _ (facts : Facts) (homes : Homes) (entries : Entries) (store : Store) (stacks : Stacks) (table : Table) (h : Holders) (q : ℕ) (d : Descriptor) where
  in_trial : (trial : Trial) (level : LivingLevel) (xs : List Activation) (r : ℕ) → TrialIs trial facts homes entries store stacks table q level xs d
      → tried_in d.scan ≡ Some r → IsBarredAt (at table.rows r)
  in_trial of_own level xs r is tried = absurd (let both : None ≡ Some r = ap tried_in (sym is.1) ∙ tried in cc)
  in_trial (of_turn scan back) level xs r is tried = absurd (let both : None ≡ Some r = ap tried_in (sym is.1) ∙ tried in cc)
  in_trial (of_another attempt) level xs r is tried =
      let same : attempt.whom.process ≡ r = (let both : Some attempt.whom.process ≡ Some r = ap tried_in (sym is.scan) ∙ tried in cc) in
      record {
        resource = attempt.scan.resource;
        procedure = attempt.whom.bar.procedure;
        ticket = attempt.whom.ticket;
        is = ap (λ n. at table.rows n) (sym same) ∙ is.barred;
      }

  in_activations : (xs : List Activation) (a : Activity) (r : ℕ) → ActivationsAre xs facts homes entries store stacks table h q a d → tried_in d.scan ≡ Some r
      → IsBarredAt (at table.rows r)
  in_activations [] a r is tried = absurd (let both : None ≡ Some r = ap tried_in (sym is.scan) ∙ tried in cc)
  in_activations (x ∷ xs) a r is tried = in_trial is.level.setting.trial is.level a.activations r is.trial tried

  tried_barred : (a : Activity) (r : ℕ) → RepresentsProcess facts homes entries store stacks table h q a d → tried_in d.scan ≡ Some r
      → IsBarredAt (at table.rows r)
  tried_barred a r is tried = in_activations a.activations a r is.activations tried

same_stack : (s : Stack) → IsSameStack s s
same_stack s = record { at = refl; base = refl; operands = refl; room = refl; spare = refl; looks_from = refl }

not_empty : (facts : Facts) (homes : Homes) (entries : Entries) (store : Store) (stacks : Stacks) (table : Table) (h : Holders) (p room : ℕ)
    (level : LivingLevel) (w : ℤ) (latest : Communicating)
    (xs : List Activation) (es : List Entry) (a : Activity) (d : Descriptor) → AreCallers facts homes entries store table p room level w latest xs es
    → IsUnderWay facts homes entries store stacks table h p a d → ActivationsAre xs facts homes entries store stacks table h p a d
not_empty facts homes entries store stacks table h p room level w latest [] es a d callers is = absurd callers
not_empty facts homes entries store stacks table h p room level w latest (x ∷ xs) es a d callers is = is

may_be_unfinished : (s : Stand) → may_be_freed s ≡ true → is_unfinished s ≡ true
may_be_unfinished Is_created f = refl
may_be_unfinished (Waits why ticket arms) f = refl
may_be_unfinished s f = absurd (cc)

may_be_shown_at : (why : Why) → may_be_freed_at why ≡ true → shows_nothing_at why ≡ true
may_be_shown_at (Send n) f = absurd (cc)
may_be_shown_at (Receive n) f = absurd (cc)
may_be_shown_at (Accept n) f = absurd (cc)
may_be_shown_at (Select due terminate) f = absurd (cc)
may_be_shown_at (Call owner entry) f = absurd (cc)
may_be_shown_at (Barred resource procedure) f = absurd (cc)
may_be_shown_at why f = refl

may_be_shown : (s : Stand) → may_be_freed s ≡ true → shows_nothing s ≡ true
may_be_shown Is_created f = refl
may_be_shown (Waits why ticket arms) f = may_be_shown_at why f
may_be_shown s f = refl

-- ## What changes

-- the standings, the counts and the holders
pub record Objects : Type 0 where
  pub table : Table
  pub counts : List ℕ
  pub monitors : List (Option ℕ)
  pub resources : List (Option ℕ)

abbrev pub holders_of : Facts → Objects → Holders
holders_of facts w = record { owners = (program_in facts).objects.conditions; monitors = w.monitors; resources = w.resources }

-- Process p, which acts, is ready still or waits where it shows nothing; the others stand where they stood or are freed.
pub record IsChange (facts : Facts) (c : Config) (p : ℕ) (w : Objects) : Type 0 where
  pub unfinished : is_unfinished (at w.table.rows p) ≡ true
  pub shows : shows_nothing (at w.table.rows p) ≡ true
  pub holds : (trial : Trial) (xs : List Activation) → Holds (holders_in facts c) p Is_ready trial xs
      → Holds (holders_of facts w) p (at w.table.rows p) trial xs
  pub ticket : (t : ℕ) → ticket_of (at w.table.rows p) ≡ Some t → t ≤ c.table.done + 1
  pub due : (t : ℕ) → due_of (at w.table.rows p) ≡ Some t → t ≤ 10 ^ 15
  pub others : (q : ℕ) → q ≢ p → IsSameOrLetGo (holders_of facts w) q (at c.table.rows q) (at w.table.rows q)
  pub still : (q : ℕ) → q ≢ p → HoldsStill q (holders_in facts c) (holders_of facts w)
  pub children : waits_at_coend (at w.table.rows 0) ≡ false → (q : ℕ) → 0 < q → is_quiet (at w.table.rows q) ≡ true
  pub rows : length w.table.rows ≡ length c.table.rows
  pub acting : w.table.acting ≡ None
  pub done : w.table.done ≡ c.table.done
  pub moment : w.table.moment ≡ c.table.moment
  pub counts : length w.counts ≡ length c.counts
  pub monitors : length w.monitors ≡ length c.monitors
  pub resources : length w.resources ≡ length c.resources

-- ## The step

module _ (facts : Facts) (m : Machine) (c : Config) (p : ℕ) (level : LivingLevel) (acting : IsActing facts m c p level) where
  abbrev g : Program
  g = program_in facts

  abbrev a : Activity
  a = activity_of g c p

  abbrev d : Descriptor
  d = descriptor_of m.descriptors p

  abbrev h : Holders
  h = holders_in facts c

  -- behind the action the process is at an address with these operands, and does what is left
  pub record IsStep (to : ℕ) (left : List ℤ) (doing : Doing) (w : Objects) : Type 0 where
    pub does : DoesOn level to left doing
    pub within : IsWithin facts level (own_address level.setting.trial to) d.communications
    pub untried : HasTried level.setting.trial facts (stack_of m.stacks p) level a.activations d → ⊥
    pub change : IsChange facts c p w

  module _ (to : ℕ) (left : List ℤ) (doing : Doing) (w : Objects) (line : ℕ) (step : IsStep to left doing w) where
    change : IsChange facts c p w
    change = step.change

    abbrev m1 : Machine
    m1 = record m { stacks = moved m.stacks p to left }

    abbrev h' : Holders
    h' = holders_of facts w

    abbrev table' : Table
    table' = ticked w.table

    abbrev c' : Config
    c' = done_at g (record (doing_next g c p doing) { table = w.table; counts = w.counts; monitors = w.monitors; resources = w.resources }) p line

    abbrev a' : Activity
    a' = record (at_work a doing) { line = line }

    abbrev d' : Descriptor
    d' = record d { line = line }

    acting1 : IsActing facts m1 c p level
    acting1 = acting_moved facts m c p level to left acting

    -- ### Lists

    activity_here : activity_of g c' p ≡ a'
    activity_here =
        let once : activity_of g (doing_next g c p doing) p ≡ at_work a doing = get_or-set_same c.activities p (at_work a doing) (nobody g)
        acting.actor.process in
        let size : length (set c.activities p (at_work a doing)) ≡ length c.activities = length-set c.activities p (at_work a doing) in
        get_or-set_same (set c.activities p (at_work a doing)) p (record (activity_of g (doing_next g c p doing) p) { line = line }) (nobody g)
        (subst (λ n. p < n) (sym size) acting.actor.process)
        ∙ ap (λ (x : Activity). record x { line = line }) once

    activity_there : (q : ℕ) → q ≢ p → activity_of g c' q ≡ activity_of g c q
    activity_there q apart =
        get_or-set_other (set c.activities p (at_work a doing)) p q (record (activity_of g (doing_next g c p doing) p) { line = line }) (nobody g) apart
        ∙ get_or-set_other c.activities p q (at_work a doing) (nobody g) apart

    activity_count : length c'.activities ≡ length c.activities
    activity_count =
        length-set (set c.activities p (at_work a doing)) p (record (activity_of g (doing_next g c p doing) p) { line = line })
        ∙ length-set c.activities p (at_work a doing)

    abbrev descriptors' : List Descriptor
    descriptors' = set m.descriptors p d'

    descriptor_here : descriptor_of descriptors' p ≡ d'
    descriptor_here = get_or-set_same m.descriptors p d' (descriptor_by 0) (subst (λ n. p < n) (sym acting.alike.words.descriptors) acting.actor.process)

    descriptor_there : (q : ℕ) → q ≢ p → descriptor_of descriptors' q ≡ descriptor_of m.descriptors q
    descriptor_there q apart = get_or-set_other m.descriptors p q d' (descriptor_by 0) apart

    moved_here : stack_of m1.stacks p ≡ record (stack_of m.stacks p) { at = to; operands = left }
    moved_here =
        get_or-set_same m.stacks p (record (stack_of m.stacks p) { at = to; operands = left }) no_stack
        (subst (λ n. p < n) (sym acting.alike.words.stacks) acting.actor.process)

    -- ### Who stands where it stood

    lender_still : (q r : ℕ) → IsLender c.table q r → at table'.rows r ≡ at c.table.rows r
    lender_still q r lender = by_place (either r p)
      where
        by_change : IsSameOrLetGo h' r (at c.table.rows r) (at table'.rows r) → at table'.rows r ≡ at c.table.rows r
        by_change (inl same) = same
        by_change (inr go) = let waits = lender_waits c.table q r lender in absurd (met_not_freed (at c.table.rows r) waits.0 go.waited waits.1)

        by_place : (r ≡ p) ⊎ (r ≢ p) → at table'.rows r ≡ at c.table.rows r
        by_place (inl same) =
            let waits = lender_waits c.table q r lender in
            absurd (met_not_ready (at c.table.rows r) waits.0 (ap (λ n. at c.table.rows n) same ∙ acting.actor.ready) waits.1)
        by_place (inr apart) = by_change (change.others r apart)

    barred_still : (r : ℕ) → IsBarredAt (at c.table.rows r) → StandsStill c.table table' r
    barred_still r barred = record { row = by_place (either r p); lenders = lender_still r }
      where
        by_change : IsSameOrLetGo h' r (at c.table.rows r) (at table'.rows r) → at table'.rows r ≡ at c.table.rows r
        by_change (inl same) = same
        by_change (inr go) = absurd (barred_not_freed (at c.table.rows r) barred go.waited)

        by_place : (r ≡ p) ⊎ (r ≢ p) → at table'.rows r ≡ at c.table.rows r
        by_place (inl same) = absurd (barred_not_ready (at c.table.rows r) barred (ap (λ n. at c.table.rows n) same ∙ acting.actor.ready))
        by_place (inr apart) = by_change (change.others r apart)

    -- ### The others

    untouched : (q : ℕ) (table : Table) → at table.rows q ≡ at c.table.rows q → ((r : ℕ) → IsLender c.table q r → at table.rows r ≡ at c.table.rows r)
        → IsUntouched facts q acting1.homes acting1.homes acting1.entries acting1.entries c.store c.store m1.stacks m1.stacks c.table table
    untouched q table row lenders =
        record {
          like = λ keeps these. record { at_home = λ n home at. at; living = λ r e kept lives. lives; references = λ n k home t kept at laid. refl };
          lenders = λ r lender. (lenders r lender, refl);
          stack = same_stack (stack_of m1.stacks q);
          entries_same = refl;
          row = row;
        }

    alone : (q : ℕ) (e : Descriptor) (table : Table) → q ≢ p → at table.rows q ≡ at c.table.rows q
        → ((s r : ℕ) → IsLender c.table s r → at table.rows r ≡ at c.table.rows r) → ((r : ℕ) → tried_in e.scan ≡ Some r → at table.rows r ≡ at c.table.rows r)
        → IsLeftAlone facts q e acting1.homes acting1.homes acting1.entries acting1.entries c.store c.store m1.stacks m1.stacks c.table table h h'
    alone q e table apart row lenders tried =
        record {
          at_home = λ n home at. at;
          untouched = untouched q table row (lenders q);
          tried = λ r is. untouched r table (tried r is) (lenders r);
          holds = change.still q apart;
        }

    other_then : (q : ℕ) (x : Activity) (e : Descriptor) → q ≢ p → RepresentsProcess facts acting1.homes acting1.entries c.store m1.stacks c.table h q x e
        → RepresentsProcess facts acting1.homes acting1.entries c.store m1.stacks table' h' q x e
    other_then q x e apart is = by_change (change.others q apart)
      where
        tried : (r : ℕ) → tried_in e.scan ≡ Some r → StandsStill c.table table' r
        tried r whom = barred_still r (tried_barred facts acting1.homes acting1.entries c.store m1.stacks c.table h q e x r is whom)

        by_change : IsSameOrLetGo h' q (at c.table.rows q) (at table'.rows q)
            → RepresentsProcess facts acting1.homes acting1.entries c.store m1.stacks table' h' q x e
        by_change (inl same) =
            process_still facts q e acting1.homes acting1.homes acting1.entries acting1.entries c.store c.store m1.stacks m1.stacks c.table table' h h'
            (alone q e table' apart same lender_still (λ r whom. (tried r whom).row)) x is
        by_change (inr go) =
            let held =
            process_still facts q e acting1.homes acting1.homes acting1.entries acting1.entries c.store c.store m1.stacks m1.stacks c.table c.table h h'
            (alone q e c.table apart refl (λ s r lender. refl) (λ r whom. refl)) x is in
            let freed : IsFreed c.table table' h' q e =
            record {
              unfinished = may_be_unfinished (at c.table.rows q) go.waited;
              showed = may_be_shown (at c.table.rows q) go.waited;
              ready = go.ready;
              has = go.has;
              lenders = lender_still q;
              tried = tried;
            } in
            process_freed facts acting1.homes acting1.entries c.store m1.stacks c.table table' h' q e freed x held

    -- ### The process itself

    level_there : IsAtLevel facts acting1.homes acting1.entries c.store m1.stacks c.table h p a' d' level
    level_there =
        let old = acting1.actor.stands in
        record { count = old.count; seen = old.seen; callers = old.callers; room = old.room; accepts = old.accepts; met = old.met; holds = old.holds }

    level_then : IsAtLevel facts acting1.homes acting1.entries c.store m1.stacks table' h' p a' d' level
    level_then =
        let holds : Holds h p Is_ready level.setting.trial a.activations =
        subst (λ (s : Stand). Holds h p s level.setting.trial a.activations) acting.actor.ready acting1.actor.stands.holds in
        level_anew facts acting1.homes acting1.entries c.store m1.stacks c.table table' p (lender_still p) h h' d' a' level
        (change.holds level.setting.trial a.activations holds) level_there

    own_tried : (r : ℕ) → tried_in d.scan ≡ Some r → StandsStill c.table table' r
    own_tried r whom = barred_still r (which acting1.actor.trial)
      where
        looks : (stack_of m1.stacks p).looks_from ≡ (stack_of m.stacks p).looks_from
        looks = ap (λ (s : Stack). s.looks_from) moved_here

        back : (trial : Trial) → HasTried trial facts (stack_of m1.stacks p) level a.activations d
            → HasTried trial facts (stack_of m.stacks p) level a.activations d
        back of_own is = absurd is
        back (of_turn scan at) is = absurd is
        back (of_another attempt) is = (sym looks ∙ is.0, is.1, is.2, is.3)

        which : TrialIs level.setting.trial facts acting1.homes acting1.entries c.store m1.stacks c.table p level a.activations d
            ⊎ HasTried level.setting.trial facts (stack_of m1.stacks p) level a.activations d → IsBarredAt (at c.table.rows r)
        which (inl is) = in_trial facts acting1.homes acting1.entries c.store m1.stacks c.table h p d level.setting.trial level a.activations r is whom
        which (inr is) = absurd (step.untried (back level.setting.trial is))

    trial_then : TrialIs level.setting.trial facts acting1.homes acting1.entries c.store m1.stacks table' p level a'.activations d'
    trial_then =
        trial_of level.setting.trial
        (trial_anew facts acting1.homes acting1.entries c.store m1.stacks c.table table' d own_tried p level.setting.trial level a.activations
        (which acting1.actor.trial))
      where
        looks : (stack_of m1.stacks p).looks_from ≡ (stack_of m.stacks p).looks_from
        looks = ap (λ (s : Stack). s.looks_from) moved_here

        back : (trial : Trial) → HasTried trial facts (stack_of m1.stacks p) level a.activations d
            → HasTried trial facts (stack_of m.stacks p) level a.activations d
        back of_own is = absurd is
        back (of_turn scan at) is = absurd is
        back (of_another attempt) is = (sym looks ∙ is.0, is.1, is.2, is.3)

        which : TrialIs level.setting.trial facts acting1.homes acting1.entries c.store m1.stacks c.table p level a.activations d
            ⊎ HasTried level.setting.trial facts (stack_of m1.stacks p) level a.activations d
            → TrialIs level.setting.trial facts acting1.homes acting1.entries c.store m1.stacks c.table p level a.activations d
        which (inl is) = is
        which (inr is) = absurd (step.untried (back level.setting.trial is))

        trial_of : (trial : Trial) → TrialIs trial facts acting1.homes acting1.entries c.store m1.stacks table' p level a.activations d
            → TrialIs trial facts acting1.homes acting1.entries c.store m1.stacks table' p level a'.activations d'
        trial_of of_own is = is
        trial_of (of_turn scan at) is = is
        trial_of (of_another attempt) is =
            record {
              from = is.from;
              barred = is.barred;
              procedure = is.procedure;
              turn = is.turn;
              scan = is.scan;
              way = is.way;
              room = is.room;
              lenders = is.lenders;
              display = is.display;
              sees = is.sees;
              around = is.around;
            }

    under_way : IsUnderWay facts acting1.homes acting1.entries c.store m1.stacks table' h' p a' d'
    under_way =
        let does : DoesOn level (stack_of m1.stacks p).at (stack_of m1.stacks p).operands doing =
        subst (λ (s : Stack). DoesOn level s.at s.operands doing) (sym moved_here) step.does in
        record {
          unfinished = change.unfinished;
          level = level;
          stands = level_then;
          within = subst (λ (s : Stack). IsWithin facts level (own_address level.setting.trial s.at) d.communications) (sym moved_here) step.within;
          hand = (acting1.actor.offered, change.shows, does);
          trial = trial_then;
        }

    process_here : RepresentsProcess facts acting1.homes acting1.entries c.store m1.stacks table' h' p a' d'
    process_here =
        record {
          line = refl;
          spare = acting1.actor.spare;
          activations =
              not_empty facts acting1.homes acting1.entries c.store m1.stacks table' h' p (stack_of m1.stacks p).room level
              (word_of (last_activation m1.stacks p))
              d.communications a.activations (acting1.entries p) a' d' level_then.callers under_way;
        }

    processes : (q : ℕ) → (q ≡ p) ⊎ (q ≢ p) → q < length c.activities
        → RepresentsProcess facts acting1.homes acting1.entries c.store m1.stacks table' h' q (activity_of g c' q) (descriptor_of descriptors' q)
    processes q (inl same) within =
        subst (λ n. RepresentsProcess facts acting1.homes acting1.entries c.store m1.stacks table' h' n (activity_of g c' n) (descriptor_of descriptors' n))
        (sym same)
        (subst (λ (x : Activity). RepresentsProcess facts acting1.homes acting1.entries c.store m1.stacks table' h' p x (descriptor_of descriptors' p))
        (sym activity_here)
        (subst (λ (e : Descriptor). RepresentsProcess facts acting1.homes acting1.entries c.store m1.stacks table' h' p a' e) (sym descriptor_here)
        process_here))
    processes q (inr apart) within =
        subst (λ (x : Activity). RepresentsProcess facts acting1.homes acting1.entries c.store m1.stacks table' h' q x (descriptor_of descriptors' q))
        (sym (activity_there q apart))
        (subst (λ (e : Descriptor). RepresentsProcess facts acting1.homes acting1.entries c.store m1.stacks table' h' q (activity_of g c q) e)
        (sym (descriptor_there q apart))
        (other_then q (activity_of g c q) (descriptor_of m.descriptors q) apart (acting1.others q within apart)))

    -- ### All that is alike

    between_then : IsBetweenActions table'
    between_then =
        let old = acting.alike.between in
        let next : w.table.done + 1 ≡ c.table.done + 1 = ap (λ n. n + 1) change.done in
        record {
          acting = change.acting;
          tickets = λ q t is. subst (λ n. t ≤ n) (sym next) (ticket_then q (either q p) t is);
          moment = more w.table.moment c.table.moment c.table.done w.table.done (10 ^ 15) old.moment change.moment change.done;
          due = λ q t is. due_then q (either q p) t is;
          done = last c.table.done w.table.done (10 ^ 18) acting.few change.done;
        }
      where
        later : (n k : ℕ) → n ≤ k → n ≤ k + 1
        later n k less = grind (arith, less)

        more : (n n0 k k' b : ℕ) → n0 ≤ b + k → n ≡ n0 → k' ≡ k → n + 1 ≤ b + (k' + 1)
        more n n0 k k' b less same same' = grind (arith, less, same, same')

        last : (n k b : ℕ) → n < b → k ≡ n → k + 1 ≤ b
        last n k b less same = grind (arith, less, same)

        ticket_then : (q : ℕ) → (q ≡ p) ⊎ (q ≢ p) → (t : ℕ) → ticket_of (at w.table.rows q) ≡ Some t → t ≤ c.table.done + 1
        ticket_then q (inl same) t is = change.ticket t (ap (λ n. ticket_of (at w.table.rows n)) (sym same) ∙ is)
        ticket_then q (inr apart) t is = by_change (change.others q apart)
          where
            by_change : IsSameOrLetGo h' q (at c.table.rows q) (at w.table.rows q) → t ≤ c.table.done + 1
            by_change (inl same) = later t c.table.done (acting.alike.between.tickets q t (ap ticket_of (sym same) ∙ is))
            by_change (inr go) = absurd (let no : None ≡ Some t = ap ticket_of (sym go.ready) ∙ is in cc)

        due_then : (q : ℕ) → (q ≡ p) ⊎ (q ≢ p) → (t : ℕ) → due_of (at w.table.rows q) ≡ Some t → t ≤ 10 ^ 15
        due_then q (inl same) t is = change.due t (ap (λ n. due_of (at w.table.rows n)) (sym same) ∙ is)
        due_then q (inr apart) t is = by_change (change.others q apart)
          where
            by_change : IsSameOrLetGo h' q (at c.table.rows q) (at w.table.rows q) → t ≤ 10 ^ 15
            by_change (inl same) = acting.alike.between.due q t (ap due_of (sym same) ∙ is)
            by_change (inr go) = absurd (let no : None ≡ Some t = ap due_of (sym go.ready) ∙ is in cc)

    main_then : is_unfinished (at w.table.rows 0) ≡ true
    main_then = by_place (either 0 p)
      where
        by_change : IsSameOrLetGo h' 0 (at c.table.rows 0) (at w.table.rows 0) → is_unfinished (at w.table.rows 0) ≡ true
        by_change (inl same) = ap is_unfinished same ∙ acting.alike.main
        by_change (inr go) = ap is_unfinished go.ready

        by_place : (0 ≡ p) ⊎ (0 ≢ p) → is_unfinished (at w.table.rows 0) ≡ true
        by_place (inl same) = ap (λ n. is_unfinished (at w.table.rows n)) same ∙ change.unfinished
        by_place (inr apart) = by_change (change.others 0 apart)

    kinds_then : AreOfKinds facts acting1.homes c'
    kinds_then =
        let old = acting1.alike.kinds in
        record {
          semaphores = λ l r lies. let is = old.semaphores l r lies in (is.0, is.1, subst (λ n. is.0 < n) (sym change.counts) is.2);
          conditions = old.conditions;
          processes = λ l t k r lies form. let is = old.processes l t k r lies form in
              (is.0, is.1, is.2, subst (λ n. is.0 < n) (sym activity_count) is.3, is.4);
          channel_numbers = old.channel_numbers;
          channels = old.channels;
        }

    holds_then : HoldsStore facts acting1.homes acting1.entries c.store m1.stacks (w.table.done + 1)
    holds_then =
        let old = acting1.alike.holds in
        record {
          memory = old.memory;
          few = old.few;
          objects = old.objects;
          main = old.main;
          mains = old.mains;
          numbers = λ n home is. later n c.table.done w.table.done (old.numbers n home is) change.done;
        }
      where
        later : (n k k' : ℕ) → n ≤ k → k' ≡ k → n ≤ k' + 1
        later n k k' less same = grind (arith, less, same)

    module _ (world : Table) (semaphores : List ℕ) (monitors : Monitors) (resources : List (Option ℕ)) (same_world : world ≡ machine_table facts w.table)
        (same_counts : semaphores ≡ w.counts)
        (same_monitors : monitors.holders ≡ w.monitors) (same_owners : monitors.owners ≡ m.monitors.owners) (same_resources : resources ≡ w.resources) where
      abbrev m' : Machine
      m' = acted line p (record m { stacks = moved m.stacks p to left; world = world; semaphores = semaphores; monitors = monitors; resources = resources })

      words_then : SharesWords facts m' c'
      words_then =
          let old = acting1.alike.words in
          record {
            processes = activity_count ∙ old.processes;
            stacks = old.stacks ∙ sym activity_count;
            descriptors = length-set m.descriptors p d' ∙ old.descriptors ∙ sym activity_count;
            rows = change.rows ∙ old.rows ∙ sym activity_count;
            semaphores = same_counts;
            monitors = same_monitors;
            owners = same_owners ∙ old.owners;
            resources = same_resources;
            input = old.input;
            draws = old.draws;
            in_line = old.in_line;
          }

      alike_then : AreAlike facts acting1.homes acting1.entries m' c'
      alike_then =
          let old = acting1.alike in
          record {
            program = old.program;
            words = words_then;
            holds = holds_then;
            kinds = kinds_then;
            children = change.children;
            main = main_then;
            between = between_then;
            counts = change.counts ∙ old.counts;
            monitor_count = change.monitors ∙ old.monitor_count;
            resource_count = change.resources ∙ old.resource_count;
            rooms = old.rooms;
            fault = old.fault;
          }

      pub represents_then : Represents facts m' c'
      represents_then =
          record {
            homes = acting1.homes;
            entries = acting1.entries;
            alike = alike_then;
            world = ap ticked same_world;
            processes = λ q within. processes q (either q p) (subst (λ n. q < n) activity_count within);
          }
