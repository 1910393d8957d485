-- Standings and holders change between two actions: some that waited go on, and one process gives up what it holds.
use Rattle.std.proofs.Common.{◌≡◌, ◌≢◌, ℕ, ◌+◌, ◌^◌, ◌<◌, ◌≤◌, true, false, List, [], ◌∷◌, length, Option, Some, None, refl, sym, ap, ◌∙◌, subst, ◌⊎◌}
use Rattle.std.proofs.Common.{inl, inr}
use Rattle.pfc_monitor.specs.declared.monitors.Monitors.{Monitors}
use Rattle.pfc_state.specs.Stands.{Stand, Is_created, Is_ready, Waits, is_unfinished, ticket_of, due_of}
use Rattle.pfc_state.specs.declared.waits.Why.{Why}
use Rattle.pfc_state.specs.declared.waits.Why.TheVariants.{Send, Receive, Accept, Select, Call, Barred, Meeting}
use Rattle.pfc_world.specs.Tables.{Table, at}
use Rattle.pfc_semantics.specs.Programs.{Program}
use Rattle.pfc_semantics.specs.Configurations.{Hand, empty_hand, Activation, Activity, Config, activity_of}
use Rattle.pfc_stacks.specs.Stacks.{Stack, stack_of}
use Rattle.pfc_machines.specs.declared.machine.Machine.{Machine}
use Rattle.pfc_machines.specs.declared.descriptors.Descriptor.{Descriptor}
use Rattle.pfc_machines.specs.Descriptors.{descriptor_of}
use Rattle.pfc_machines.specs.Quiet.{tried_in}
use Rattle.pfc_standing_code.specs.Settings.{Trial, of_own, of_turn, of_another}
use Rattle.pfc_representation.specs.Levels.{Facts, program_in, LivingLevel, is_met_by}
use Rattle.pfc_representation.specs.Hands.{shows_nothing, shows_nothing_at, HandIs}
use Rattle.pfc_representation.specs.Holding.{Holders, holders_in, Holds, is_quiet, waits_at_coend}
use Rattle.pfc_representation.specs.Trials.{TrialIs}
use Rattle.pfc_representation.specs.Processes.{IsUnderWay, ActivationsAre, RepresentsProcess}
use Rattle.pfc_representation.specs.Machines.{machine_table, SharesWords, HoldsStore, IsBetweenActions, AreAlike, Represents}
use Rattle.pfc_representation.specs.Keeping.{IsSameStack, IsUntouched, HoldsStill, IsLeftAlone, IsLender, meets, meets_lender}
use Rattle.pfc_representation.proofs.Kept.{process_still}
use Rattle.pfc_kept_object_actions.specs.Freed.{StandsStill, may_be_freed, may_be_freed_at}
use Rattle.pfc_kept_object_actions.proofs.Rows.{level_anew, trial_anew}
use Rattle.pfc_kept_object_actions.proofs.Freed.{process_freed}
use Rattle.pfc_kept_object_actions.proofs.Change.{IsOneLetGo}
use Rattle.pfc_kept_calls.proofs.Caller.{either_number}

-- ## Who cannot be let go

-- a lender waits in a rendezvous
in_meeting : (table : Table) (q r : ℕ) → IsLender table q r → (s : ℕ) × is_met_by (at table.rows r) s
in_meeting table _ _ (meets q r met) = (q, met)
in_meeting table _ _ (meets_lender q s r met inner) = in_meeting table s r inner

meeting_stays : (s : Stand) (q : ℕ) → may_be_freed s ≡ true → is_met_by s q → ⊥
meeting_stays (Waits (Meeting owner) ticket arms) q freed met = cc
meeting_stays s q freed met = absurd met

-- whose guard is tried is barred
barred_stays : (s : Stand) (resource procedure ticket : ℕ) → s ≡ Waits (Barred resource procedure) ticket [] → may_be_freed s ≡ true → ⊥
barred_stays s resource procedure ticket is freed = (let no : false ≡ true = ap may_be_freed (sym is) ∙ freed in cc)

freed_unfinished : (s : Stand) → may_be_freed s ≡ true → is_unfinished s ≡ true
freed_unfinished Is_created f = refl
freed_unfinished (Waits why ticket arms) f = refl
freed_unfinished s f = absurd (cc)

freed_shows_at : (why : Why) → may_be_freed_at why ≡ true → shows_nothing_at why ≡ true
freed_shows_at (Send n) f = absurd (cc)
freed_shows_at (Receive n) f = absurd (cc)
freed_shows_at (Accept n) f = absurd (cc)
freed_shows_at (Select due terminate) f = absurd (cc)
freed_shows_at (Call owner entry) f = absurd (cc)
freed_shows_at (Barred resource procedure) f = absurd (cc)
freed_shows_at why f = refl

freed_shows : (s : Stand) → may_be_freed s ≡ true → shows_nothing s ≡ true
freed_shows Is_created f = refl
freed_shows (Waits why ticket arms) f = freed_shows_at why f
freed_shows s f = refl

-- ## What changes

module _ (facts : Facts) (m : Machine) (c : Config) (is : Represents facts m c) (p : ℕ) (table : Table) (monitors : List (Option ℕ)) where
  abbrev g : Program
  g = program_in facts

  abbrev h : Holders
  h = holders_in facts c

  abbrev h' : Holders
  h' = record { owners = g.objects.conditions; monitors = monitors; resources = c.resources }

  -- Process p is ready and shows nothing, and holds what it is in; the others stand where they stood or are let go, and hold what they held.
  pub record IsSettled : Type 0 where
    pub ready : at c.table.rows p ≡ Is_ready
    pub mine : at table.rows p ≡ Is_ready
    pub empty : (activity_of g c p).hand ≡ empty_hand
    pub holds : (trial : Trial) → Holds h p Is_ready trial (activity_of g c p).activations → Holds h' p Is_ready trial (activity_of g c p).activations
    pub rest : (r : ℕ) → (at table.rows r ≡ at c.table.rows r) ⊎ IsOneLetGo h' r (at c.table.rows r) (at table.rows r)
    pub still : (r : ℕ) → r ≢ p → HoldsStill r h h'
    pub size : length table.rows ≡ length c.table.rows
    pub rests : table.acting ≡ None
    pub done : table.done ≡ c.table.done
    pub moment : table.moment ≡ c.table.moment
    pub count : length monitors ≡ length c.monitors

  module _ (settled : IsSettled) where
    row_still : (r : ℕ) → (may_be_freed (at c.table.rows r) ≡ true → ⊥) → at table.rows r ≡ at c.table.rows r
    row_still r stays = by (settled.rest r)
      where
        by : (at table.rows r ≡ at c.table.rows r) ⊎ IsOneLetGo h' r (at c.table.rows r) (at table.rows r) → at table.rows r ≡ at c.table.rows r
        by (inl same) = same
        by (inr one) = absurd (stays one.go.waited)

    lender_still : (q r : ℕ) → IsLender c.table q r → at table.rows r ≡ at c.table.rows r
    lender_still q r lender = (let met = in_meeting c.table q r lender in row_still r (λ freed. meeting_stays (at c.table.rows r) met.0 freed met.1))

    -- ## Whose guard is tried

    module _ (q : ℕ) (d : Descriptor) where
      in_trial : (trial : Trial) (level : LivingLevel) (xs : List Activation) (r : ℕ)
          → TrialIs trial facts is.homes is.entries c.store m.stacks c.table q level xs d → tried_in d.scan ≡ Some r →
          may_be_freed (at c.table.rows r) ≡ true → ⊥
      in_trial of_own level xs r tries tried = absurd (let both : None ≡ Some r = ap tried_in (sym tries.1) ∙ tried in cc)
      in_trial (of_turn scan back) level xs r tries tried = absurd (let both : None ≡ Some r = ap tried_in (sym tries.1) ∙ tried in cc)
      in_trial (of_another attempt) level xs r tries tried =
          let same : attempt.whom.process ≡ r = (let both : Some attempt.whom.process ≡ Some r = ap tried_in (sym tries.scan) ∙ tried in cc) in
          barred_stays (at c.table.rows r) attempt.scan.resource attempt.whom.bar.procedure attempt.whom.ticket
          (ap (λ i. at c.table.rows i) (sym same) ∙ tries.barred)

      in_activations : (xs : List Activation) (a : Activity) (r : ℕ) → ActivationsAre xs facts is.homes is.entries c.store m.stacks c.table h q a d
          → tried_in d.scan ≡ Some r → may_be_freed (at c.table.rows r) ≡ true → ⊥
      in_activations [] a r at_rest tried = absurd (let both : None ≡ Some r = ap tried_in (sym at_rest.scan) ∙ tried in cc)
      in_activations (x ∷ xs) a r goes tried = in_trial goes.level.setting.trial goes.level a.activations r goes.trial tried

      tried_still : (a : Activity) → RepresentsProcess facts is.homes is.entries c.store m.stacks c.table h q a d → (r : ℕ) → tried_in d.scan ≡ Some r
          → StandsStill c.table table r
      tried_still a process r tried = record {
        row = row_still r (in_activations a.activations a r process.activations tried);
        lenders = λ s lender. lender_still r s lender;
      }

    -- ## The others

    same_stack : (s : Stack) → IsSameStack s s
    same_stack s = record { at = refl; base = refl; operands = refl; room = refl; spare = refl; looks_from = refl }

    untouched : (q : ℕ) (then : Table) → at then.rows q ≡ at c.table.rows q → ((r : ℕ) → IsLender c.table q r → at then.rows r ≡ at c.table.rows r)
        → IsUntouched facts q is.homes is.homes is.entries is.entries c.store c.store m.stacks m.stacks c.table then
    untouched q then row lenders = record {
      like = λ keeps these. record { at_home = λ n home at. at; living = λ r e kept lives. lives; references = λ n k home t kept at laid. refl };
      lenders = λ r lender. (lenders r lender, refl);
      stack = same_stack (stack_of m.stacks q);
      entries_same = refl;
      row = row;
    }

    alone : (q : ℕ) (e : Descriptor) (then : Table) → q ≢ p → at then.rows q ≡ at c.table.rows q
        → ((s r : ℕ) → IsLender c.table s r → at then.rows r ≡ at c.table.rows r) → ((r : ℕ) → tried_in e.scan ≡ Some r → at then.rows r ≡ at c.table.rows r)
        → IsLeftAlone facts q e is.homes is.homes is.entries is.entries c.store c.store m.stacks m.stacks c.table then h h'
    alone q e then apart row lenders tried = record {
      at_home = λ n home at. at;
      untouched = untouched q then row (lenders q);
      tried = λ r whom. untouched r then (tried r whom) (lenders r);
      holds = settled.still q apart;
    }

    other_settled : (q : ℕ) (a : Activity) (e : Descriptor) → q ≢ p → RepresentsProcess facts is.homes is.entries c.store m.stacks c.table h q a e
        → RepresentsProcess facts is.homes is.entries c.store m.stacks table h' q a e
    other_settled q a e apart process = by (settled.rest q)
      where
        by : (at table.rows q ≡ at c.table.rows q) ⊎ IsOneLetGo h' q (at c.table.rows q) (at table.rows q)
            → RepresentsProcess facts is.homes is.entries c.store m.stacks table h' q a e
        by (inl same) =
            process_still facts q e is.homes is.homes is.entries is.entries c.store c.store m.stacks m.stacks c.table table h h'
            (alone q e table apart same lender_still (λ r tried. (tried_still q e a process r tried).row)) a process
        by (inr one) =
            process_freed facts is.homes is.entries c.store m.stacks c.table table h' q e
            (record {
              unfinished = freed_unfinished (at c.table.rows q) one.go.waited;
              showed = freed_shows (at c.table.rows q) one.go.waited;
              ready = one.go.ready;
              has = one.go.has;
              lenders = lender_still q;
              tried = tried_still q e a process;
            })
            a
            (process_still facts q e is.homes is.homes is.entries is.entries c.store c.store m.stacks m.stacks c.table c.table h h'
            (alone q e c.table apart refl (λ s r lender. refl) (λ r tried. refl)) a process)

    -- ## The process itself

    abbrev a : Activity
    a = activity_of g c p

    abbrev d : Descriptor
    d = descriptor_of m.descriptors p

    hand_settled : (level : LivingLevel) (hand : Hand) → hand ≡ empty_hand
        → HandIs facts is.homes c.table is.entries p level (stack_of m.stacks p).at (stack_of m.stacks p).operands d (at c.table.rows p) a.doing hand
        → HandIs facts is.homes table is.entries p level (stack_of m.stacks p).at (stack_of m.stacks p).operands d (at table.rows p) a.doing hand
    hand_settled level hand none shown =
        subst (λ (x : Hand). HandIs facts is.homes table is.entries p level (stack_of m.stacks p).at (stack_of m.stacks p).operands d
        (at table.rows p) a.doing x) (sym none)
        (let plainly = subst (λ (x : Hand). HandIs facts is.homes c.table is.entries p level (stack_of m.stacks p).at (stack_of m.stacks p).operands d
        (at c.table.rows p) a.doing x) none shown in
        (plainly.0, ap shows_nothing settled.mine, plainly.2))

    goes_settled : ((r : ℕ) → tried_in d.scan ≡ Some r → StandsStill c.table table r)
        → IsUnderWay facts is.homes is.entries c.store m.stacks c.table h p a d → IsUnderWay facts is.homes is.entries c.store m.stacks table h' p a d
    goes_settled tried goes = record {
      unfinished = ap is_unfinished settled.mine;
      level = goes.level;
      stands =
          level_anew facts is.homes is.entries c.store m.stacks c.table table p (lender_still p) h h' d a goes.level
          (subst (λ (s : Stand). Holds h' p s goes.level.setting.trial a.activations) (sym settled.mine)
          (settled.holds goes.level.setting.trial
          (subst (λ (s : Stand). Holds h p s goes.level.setting.trial a.activations) settled.ready goes.stands.holds))) goes.stands;
      within = goes.within;
      hand = hand_settled goes.level a.hand settled.empty goes.hand;
      trial = trial_anew facts is.homes is.entries c.store m.stacks c.table table d tried p goes.level.setting.trial goes.level a.activations goes.trial;
    }

    own_settled : (xs : List Activation) → ((r : ℕ) → tried_in d.scan ≡ Some r → StandsStill c.table table r)
        → ActivationsAre xs facts is.homes is.entries c.store m.stacks c.table h p a d
        → ActivationsAre xs facts is.homes is.entries c.store m.stacks table h' p a d
    own_settled [] tried at_rest = absurd (let both : true ≡ false = ap is_unfinished (sym settled.ready) ∙ at_rest.finished in cc)
    own_settled (x ∷ xs) tried goes = goes_settled tried goes

    processes : (q : ℕ) → (q ≡ p) ⊎ (q ≢ p) → q < length c.activities
        → RepresentsProcess facts is.homes is.entries c.store m.stacks table h' q (activity_of g c q) (descriptor_of m.descriptors q)
    processes q (inr apart) less = other_settled q (activity_of g c q) (descriptor_of m.descriptors q) apart (is.processes q less)
    processes q (inl same) less =
        let mine : RepresentsProcess facts is.homes is.entries c.store m.stacks c.table h p a d =
        subst (λ i. RepresentsProcess facts is.homes is.entries c.store m.stacks c.table h i (activity_of g c i) (descriptor_of m.descriptors i)) same
        (is.processes q less) in
        subst (λ i. RepresentsProcess facts is.homes is.entries c.store m.stacks table h' i (activity_of g c i) (descriptor_of m.descriptors i)) (sym same)
        (record { line = mine.line; spare = mine.spare; activations = own_settled a.activations (tried_still p d a mine) mine.activations })

    -- ## All that is alike

    children : waits_at_coend (at table.rows 0) ≡ false → (r : ℕ) → 0 < r → is_quiet (at table.rows r) ≡ true
    children away r child = quiet (settled.rest r)
      where
        before : (at table.rows 0 ≡ at c.table.rows 0) ⊎ IsOneLetGo h' 0 (at c.table.rows 0) (at table.rows 0) → waits_at_coend (at c.table.rows 0) ≡ false
        before (inl same) = ap waits_at_coend (sym same) ∙ away
        before (inr one) = one.no_coend

        was : is_quiet (at c.table.rows r) ≡ true
        was = is.alike.children (before (settled.rest 0)) r child

        quiet : (at table.rows r ≡ at c.table.rows r) ⊎ IsOneLetGo h' r (at c.table.rows r) (at table.rows r) → is_quiet (at table.rows r) ≡ true
        quiet (inl same) = ap is_quiet same ∙ was
        quiet (inr one) = absurd (let no : true ≡ false = sym was ∙ one.runs in cc)

    main_then : is_unfinished (at table.rows 0) ≡ true
    main_then = by (settled.rest 0)
      where
        by : (at table.rows 0 ≡ at c.table.rows 0) ⊎ IsOneLetGo h' 0 (at c.table.rows 0) (at table.rows 0) → is_unfinished (at table.rows 0) ≡ true
        by (inl same) = ap is_unfinished same ∙ is.alike.main
        by (inr one) = ap is_unfinished one.go.ready

    between_then : IsBetweenActions table
    between_then =
        let old = is.alike.between in
        record {
          acting = settled.rests;
          tickets = λ r t so. subst (λ i. t ≤ i) (sym settled.done) (ticket_then r t so (settled.rest r));
          moment = subst (λ i. i ≤ 10 ^ 15 + table.done) (sym settled.moment) (subst (λ i. c.table.moment ≤ 10 ^ 15 + i) (sym settled.done) old.moment);
          due = λ r t so. due_then r t so (settled.rest r);
          done = subst (λ i. i ≤ 10 ^ 18) (sym settled.done) old.done;
        }
      where
        ticket_then : (r t : ℕ) → ticket_of (at table.rows r) ≡ Some t
            → (at table.rows r ≡ at c.table.rows r) ⊎ IsOneLetGo h' r (at c.table.rows r) (at table.rows r) → t ≤ c.table.done
        ticket_then r t so (inl same) = is.alike.between.tickets r t (ap ticket_of (sym same) ∙ so)
        ticket_then r t so (inr one) = absurd (let no : None ≡ Some t = ap ticket_of (sym one.go.ready) ∙ so in cc)

        due_then : (r t : ℕ) → due_of (at table.rows r) ≡ Some t
            → (at table.rows r ≡ at c.table.rows r) ⊎ IsOneLetGo h' r (at c.table.rows r) (at table.rows r) → t ≤ 10 ^ 15
        due_then r t so (inl same) = is.alike.between.due r t (ap due_of (sym same) ∙ so)
        due_then r t so (inr one) = absurd (let no : None ≡ Some t = ap due_of (sym one.go.ready) ∙ so in cc)

    module _ (world : Table) (held : Monitors) (same_world : world ≡ machine_table facts table) (same_monitors : held.holders ≡ monitors)
        (same_owners : held.owners ≡ m.monitors.owners) where
      abbrev pub m' : Machine
      m' = record m { world = world; monitors = held }

      abbrev pub c' : Config
      c' = record c { table = table; monitors = monitors }

      words_then : SharesWords facts m' c'
      words_then =
          let old = is.alike.words in
          record {
            processes = old.processes;
            stacks = old.stacks;
            descriptors = old.descriptors;
            rows = settled.size ∙ old.rows;
            semaphores = old.semaphores;
            monitors = same_monitors;
            owners = same_owners ∙ old.owners;
            resources = old.resources;
            input = old.input;
            draws = old.draws;
            in_line = old.in_line;
          }

      alike_then : AreAlike facts is.homes is.entries m' c'
      alike_then =
          let old = is.alike in
          record {
            program = old.program;
            words = words_then;
            holds = subst (λ i. HoldsStore facts is.homes is.entries c.store m.stacks i) (sym settled.done) old.holds;
            kinds = record {
              semaphores = old.kinds.semaphores;
              conditions = old.kinds.conditions;
              processes = old.kinds.processes;
              channel_numbers = old.kinds.channel_numbers;
              channels = old.kinds.channels;
            };
            children = children;
            main = main_then;
            between = between_then;
            counts = old.counts;
            monitor_count = settled.count ∙ old.monitor_count;
            resource_count = old.resource_count;
            rooms = old.rooms;
            fault = old.fault;
          }

      pub represents_settled : Represents facts m' c'
      represents_settled = record {
        homes = is.homes;
        entries = is.entries;
        alike = alike_then;
        world = same_world;
        processes = λ q less. processes q (either_number q p) less;
      }
