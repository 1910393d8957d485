-- Behind the end of a child the machine represents what the source text has come to.
use Rattle.std.proofs.Common.{◌≡◌, ◌≢◌, ℕ, ◌+◌, ◌^◌, ◌<◌, ◌≤◌, true, false, List, [], length, set, get_or, Some, None, refl, sym, ap, ◌∙◌, subst}
use Rattle.std.proofs.Common.{Bool, arith, ◌⊎◌, inl, inr}
use Rattle.std.proofs.lemmas.List.{get_or-set_same, get_or-set_other, length-set}
use Rattle.pfc_code.specs.declared.instructions.Instr.TheVariants.{END}
use Rattle.pfc_state.specs.Stands.{is_unfinished, ticket_of, due_of}
use Rattle.pfc_world.specs.Tables.{Table, at}
use Rattle.pfc_world.specs.Transitions.{finished, ticked}
use Rattle.pfc_semantics.specs.Programs.{Program}
use Rattle.pfc_semantics.specs.Store.{Store, without}
use Rattle.pfc_semantics.specs.Configurations.{Activation, Activity, Config, nobody, activity_of, done_at}
use Rattle.pfc_semantics.specs.Processes.{ended_process, ended_activity, without_all}
use Rattle.pfc_stacks.specs.Stacks.{Stack, stack_of}
use Rattle.pfc_cells.specs.Memory.{Entries}
use Rattle.pfc_machines.specs.declared.machine.Machine.{Machine}
use Rattle.pfc_machines.specs.declared.descriptors.Descriptor.{Descriptor}
use Rattle.pfc_machines.specs.Descriptors.{descriptor_by, descriptor_of}
use Rattle.pfc_machines.specs.Quiet.{tried_in}
use Rattle.pfc_machine_acts.specs.Acting.{acted}
use Rattle.pfc_standing_code.specs.Settings.{Trial, of_own}
use Rattle.pfc_views.specs.Views.{AreObjects}
use Rattle.pfc_representation.specs.Levels.{Facts, program_in, LivingLevel}
use Rattle.pfc_representation.specs.Holding.{Holders, holders_in, is_quiet, waits_at_coend}
use Rattle.pfc_representation.specs.Trials.{TrialIs, HasTried}
use Rattle.pfc_representation.specs.Processes.{RepresentsProcess}
use Rattle.pfc_representation.specs.Keeping.{IsSameStack, IsUntouched, IsLeftAlone, IsLender}
use Rattle.pfc_representation.specs.Machines.{machine_table, SharesWords, HoldsStore, IsBetweenActions, AreAlike, Represents}
use Rattle.pfc_representation.specs.Acting.{IsActing}
use Rattle.pfc_representation.proofs.Kept.{process_still}
use Rattle.pfc_kept_own_actions.proofs.Steps.{same_kinds}
use Rattle.pfc_kept_object_actions.specs.Freed.{IsFreed}
use Rattle.pfc_kept_object_actions.proofs.Freed.{process_freed}
use Rattle.pfc_kept_object_actions.proofs.Tests.{either}
use Rattle.pfc_kept_lives.proofs.Bound.{lender_bound, tried_bound, bound_apart}
use Rattle.pfc_kept_lives.proofs.Finished.{HasFinished, IsSameOrReleased, child_finished, finished_alike, bound_stays}
use Rattle.pfc_kept_lives.proofs.Finished.{coend_unfinished, coend_shows, coend_turn}
use Rattle.pfc_kept_lives.proofs.Only.{entries_here, entries_there, only, number_is, entries', store', like, memory', objects'}

same_stack : (s : Stack) → IsSameStack s s
same_stack s = record { at = refl; base = refl; operands = refl; room = refl; spare = refl; looks_from = refl }

module _ (facts : Facts) (m : Machine) (c : Config) (p : ℕ) (level : LivingLevel) (acting : IsActing facts m c p level) (line : ℕ) where
  abbrev g : Program
  g = program_in facts

  abbrev a : Activity
  a = activity_of g c p

  abbrev d : Descriptor
  d = descriptor_of m.descriptors p

  abbrev pub gone : Activity
  gone = ended_activity a

  abbrev pub a' : Activity
  a' = record gone { line = line }

  abbrev pub d' : Descriptor
  d' = record d { line = line }

  abbrev pub m' : Machine
  m' = acted line p (record m { world = finished m.world p })

  abbrev pub c' : Config
  c' = done_at g (ended_process g c p) p line

  pub activity_here : activity_of g c' p ≡ a'
  activity_here =
      let once : get_or (set c.activities p gone) p (nobody g) ≡ gone = get_or-set_same c.activities p gone (nobody g) acting.actor.process in
      let size : length (set c.activities p gone) ≡ length c.activities = length-set c.activities p gone in
      get_or-set_same (set c.activities p gone) p (record (get_or (set c.activities p gone) p (nobody g)) { line = line }) (nobody g)
      (subst (λ n. p < n) (sym size) acting.actor.process)
      ∙ ap (λ (x : Activity). record x { line = line }) once

  pub activity_there : (q : ℕ) → q ≢ p → activity_of g c' q ≡ activity_of g c q
  activity_there q apart =
      get_or-set_other (set c.activities p gone) p q (record (get_or (set c.activities p gone) p (nobody g)) { line = line }) (nobody g) apart
      ∙ get_or-set_other c.activities p q gone (nobody g) apart

  pub activity_count : length c'.activities ≡ length c.activities
  activity_count =
      length-set (set c.activities p gone) p (record (get_or (set c.activities p gone) p (nobody g)) { line = line }) ∙ length-set c.activities p gone

  pub descriptor_here : descriptor_of m'.descriptors p ≡ d'
  descriptor_here =
      get_or-set_same m.descriptors p d' (descriptor_by 0) (subst (λ n. p < n) (sym acting.alike.words.descriptors) acting.actor.process)

  pub descriptor_there : (q : ℕ) → q ≢ p → descriptor_of m'.descriptors q ≡ descriptor_of m.descriptors q
  descriptor_there q apart = get_or-set_other m.descriptors p q d' (descriptor_by 0) apart

  pub words_then : length (finished c.table p).rows ≡ length c.table.rows → SharesWords facts m' c'
  words_then size =
      let old = acting.alike.words in
      record {
        processes = activity_count ∙ old.processes;
        stacks = old.stacks ∙ sym activity_count;
        descriptors = length-set m.descriptors p d' ∙ old.descriptors ∙ sym activity_count;
        rows = size ∙ old.rows ∙ sym activity_count;
        semaphores = old.semaphores;
        monitors = old.monitors;
        owners = old.owners;
        resources = old.resources;
        input = old.input;
        draws = old.draws;
        in_line = old.in_line;
      }

  pub world_then : finished m.world p ≡ machine_table facts (finished c.table p)
  world_then = ap (λ (w : Table). finished w p) acting.world ∙ finished_alike facts c.table p p

  -- ## A child has ended

  module _ (ends : level.setting.last ≡ END) (own : level.setting.trial ≡ of_own) (child : p ≢ 0) where
    abbrev h : Holders
    h = holders_in facts c

    abbrev entries : Entries
    entries = entries' facts m c p level acting ends child

    abbrev store : Store
    store = store' facts m c p level acting ends child

    abbrev v : Table
    v = finished c.table p

    row_there : p < length c.table.rows
    row_there = subst (λ n. p < n) (sym acting.alike.words.rows) acting.actor.process

    over : HasFinished c.table v p
    over = child_finished c.table p row_there child

    -- ## The others

    lenders_stay : (q r : ℕ) → IsLender c.table q r → (at v.rows r ≡ at c.table.rows r) × (entries r ≡ acting.entries r)
    lenders_stay q r lender =
        let bound = lender_bound c.table q r lender in
        let apart = bound_apart c.table p r acting.actor.ready bound in
        (bound_stays r (at c.table.rows r) (at v.rows r) bound (over.others r apart), entries_there acting.entries p [] r apart)

    -- with the table as it was, or with rows that stay
    untouched : (q : ℕ) (table : Table) → q ≢ p → at table.rows q ≡ at c.table.rows q
        → ((r : ℕ) → IsLender c.table q r → at table.rows r ≡ at c.table.rows r)
        → IsUntouched facts q acting.homes acting.homes acting.entries entries c.store store m.stacks m.stacks c.table table
    untouched q table apart row lenders = record {
      like = λ keeps these. like facts m c p level acting ends child q apart keeps these;
      lenders = λ r lender. (lenders r lender, (lenders_stay q r lender).1);
      stack = same_stack (stack_of m.stacks q);
      entries_same = entries_there acting.entries p [] q apart;
      row = row;
    }

    module _ (q : ℕ) (apart : q ≢ p) (x : Activity) (e : Descriptor)
        (is : RepresentsProcess facts acting.homes acting.entries c.store m.stacks c.table h q x e) where
      tried_stays : (r : ℕ) → tried_in e.scan ≡ Some r → (r ≢ p) × (at v.rows r ≡ at c.table.rows r)
      tried_stays r tried =
          let bound = tried_bound facts acting.homes acting.entries c.store m.stacks c.table h q e x r is tried in
          let other = bound_apart c.table p r acting.actor.ready bound in
          (other, bound_stays r (at c.table.rows r) (at v.rows r) bound (over.others r other))

      alone : (table : Table) → at table.rows q ≡ at c.table.rows q
          → ((s r : ℕ) → IsLender c.table s r → at table.rows r ≡ at c.table.rows r)
          → ((r : ℕ) → tried_in e.scan ≡ Some r → at table.rows r ≡ at c.table.rows r)
          → IsLeftAlone facts q e acting.homes acting.homes acting.entries entries c.store store m.stacks m.stacks c.table table h h
      alone table row lenders tried = record {
        at_home = λ n home at. at;
        untouched = untouched q table apart row (lenders q);
        tried = λ r whom. untouched r table (tried_stays r whom).0 (tried r whom) (lenders r);
        holds = record { owners = refl; monitors = λ n held. held; resources = λ n held. held };
      }

      pub other_then : RepresentsProcess facts acting.homes entries store m.stacks (ticked v) h q x e
      other_then = by (over.others q apart)
        where
          by : IsSameOrReleased q (at c.table.rows q) (at v.rows q) → RepresentsProcess facts acting.homes entries store m.stacks (ticked v) h q x e
          by (inl same) =
              process_still facts q e acting.homes acting.homes acting.entries entries c.store store m.stacks m.stacks c.table (ticked v) h h
              (alone (ticked v) same (λ s r lender. (lenders_stay s r lender).0) (λ r whom. (tried_stays r whom).1)) x is
          by (inr go) =
              let held = process_still facts q e acting.homes acting.homes acting.entries entries c.store store m.stacks m.stacks c.table c.table h h
              (alone c.table refl (λ s r lender. refl) (λ r whom. refl)) x is in
              let freed : IsFreed c.table (ticked v) h q e = record {
                unfinished = coend_unfinished (at c.table.rows q) go.waited;
                showed = coend_shows (at c.table.rows q) go.waited;
                ready = go.ready;
                has = coend_turn h q (at c.table.rows q) go.waited;
                lenders = λ r lender. (lenders_stay q r lender).0;
                tried = λ r whom. record { row = (tried_stays r whom).1; lenders = λ s lender. (lenders_stay r s lender).0 };
              } in
              process_freed facts acting.homes entries store m.stacks c.table (ticked v) h q e freed x held

    -- ## The process itself

    no_scan : d.scan ≡ None
    no_scan = which acting.actor.trial
      where
        which : TrialIs level.setting.trial facts acting.homes acting.entries c.store m.stacks c.table p level a.activations d
            ⊎ HasTried level.setting.trial facts (stack_of m.stacks p) level a.activations d → d.scan ≡ None
        which (inl is) = (subst (λ (t : Trial). TrialIs t facts acting.homes acting.entries c.store m.stacks c.table p level a.activations d) own is).1
        which (inr is) = absurd (subst (λ (t : Trial). HasTried t facts (stack_of m.stacks p) level a.activations d) own is)

    process_here : RepresentsProcess facts acting.homes entries store m.stacks (ticked v) h p a' d'
    process_here = record {
      line = refl;
      spare = acting.actor.spare;
      activations = record { none = entries_here acting.entries p []; scan = no_scan; finished = ap is_unfinished over.mine };
    }

    processes : (q : ℕ) → (q ≡ p) ⊎ (q ≢ p) → q < length c.activities
        → RepresentsProcess facts acting.homes entries store m.stacks (ticked v) h q (activity_of g c' q) (descriptor_of m'.descriptors q)
    processes q (inl same) within =
        subst (λ n. RepresentsProcess facts acting.homes entries store m.stacks (ticked v) h n (activity_of g c' n) (descriptor_of m'.descriptors n)) (sym same)
        (subst (λ (x : Activity). RepresentsProcess facts acting.homes entries store m.stacks (ticked v) h p x (descriptor_of m'.descriptors p))
        (sym activity_here)
        (subst (λ (e : Descriptor). RepresentsProcess facts acting.homes entries store m.stacks (ticked v) h p a' e) (sym descriptor_here) process_here))
    processes q (inr apart) within =
        subst (λ (x : Activity). RepresentsProcess facts acting.homes entries store m.stacks (ticked v) h q x (descriptor_of m'.descriptors q))
        (sym (activity_there q apart))
        (subst (λ (e : Descriptor). RepresentsProcess facts acting.homes entries store m.stacks (ticked v) h q (activity_of g c q) e)
        (sym (descriptor_there q apart))
        (other_then q apart (activity_of g c q) (descriptor_of m.descriptors q) (acting.others q within apart)))

    -- ## All that is alike

    left_is : without_all c.store a.activations ≡ store
    left_is =
        let one = only facts m c p level acting ends in
        ap (λ (xs : List Activation). without_all c.store xs) one.activations
        ∙ ap (λ n. without c.store n) (sym (number_is facts m c p level acting ends))

    ticket_of_others : (q t : ℕ) → (q ≡ p) ⊎ (q ≢ p) → ticket_of (at v.rows q) ≡ Some t → ticket_of (at c.table.rows q) ≡ Some t
    ticket_of_others q t (inl same) is =
        absurd (let no : None ≡ Some t = ap ticket_of (sym over.mine) ∙ ap (λ n. ticket_of (at v.rows n)) (sym same) ∙ is in cc)
    ticket_of_others q t (inr apart) is = by (over.others q apart)
      where
        by : IsSameOrReleased q (at c.table.rows q) (at v.rows q) → ticket_of (at c.table.rows q) ≡ Some t
        by (inl same) = ap ticket_of (sym same) ∙ is
        by (inr go) = absurd (let no : None ≡ Some t = ap ticket_of (sym go.ready) ∙ is in cc)

    due_of_others : (q t : ℕ) → (q ≡ p) ⊎ (q ≢ p) → due_of (at v.rows q) ≡ Some t → due_of (at c.table.rows q) ≡ Some t
    due_of_others q t (inl same) is =
        absurd (let no : None ≡ Some t = ap due_of (sym over.mine) ∙ ap (λ n. due_of (at v.rows n)) (sym same) ∙ is in cc)
    due_of_others q t (inr apart) is = by (over.others q apart)
      where
        by : IsSameOrReleased q (at c.table.rows q) (at v.rows q) → due_of (at c.table.rows q) ≡ Some t
        by (inl same) = ap due_of (sym same) ∙ is
        by (inr go) = absurd (let no : None ≡ Some t = ap due_of (sym go.ready) ∙ is in cc)

    between_then : IsBetweenActions (ticked v)
    between_then =
        let old = acting.alike.between in
        record {
          acting = over.acting;
          tickets = λ q t is. later t c.table.done v.done (old.tickets q t (ticket_of_others q t (either q p) is)) over.done;
          moment = more v.moment c.table.moment c.table.done v.done (10 ^ 15) old.moment over.moment over.done;
          due = λ q t is. old.due q t (due_of_others q t (either q p) is);
          done = last c.table.done v.done (10 ^ 18) acting.few over.done;
        }
      where
        later : (n k k' : ℕ) → n ≤ k → k' ≡ k → n ≤ k' + 1
        later n k k' less same = grind (arith, less, same)

        more : (n n0 k k' b : ℕ) → n0 ≤ b + k → n ≡ n0 → k' ≡ k → n + 1 ≤ b + (k' + 1)
        more n n0 k k' b less same same' = grind (arith, less, same, same')

        last : (n k b : ℕ) → n < b → k ≡ n → k + 1 ≤ b
        last n k b less same = grind (arith, less, same)

    main_then : is_unfinished (at v.rows 0) ≡ true
    main_then = by (over.others 0 (λ same. child (sym same)))
      where
        by : IsSameOrReleased 0 (at c.table.rows 0) (at v.rows 0) → is_unfinished (at v.rows 0) ≡ true
        by (inl same) = ap is_unfinished same ∙ acting.alike.main
        by (inr go) = ap is_unfinished go.ready

    -- main waits for its children while one acts
    main_waits : waits_at_coend (at c.table.rows 0) ≡ true
    main_waits = by (waits_at_coend (at c.table.rows 0)) refl
      where
        some : (n : ℕ) → n ≢ 0 → 0 < n
        some n h = grind (arith, h)

        by : (b : Bool) → waits_at_coend (at c.table.rows 0) ≡ b → waits_at_coend (at c.table.rows 0) ≡ true
        by true is = is
        by false is =
            let quiet : is_quiet (at c.table.rows p) ≡ true = acting.alike.children is p (some p child) in
            absurd (let no : false ≡ true = ap is_quiet (sym acting.actor.ready) ∙ quiet in cc)

    holds_then : HoldsStore facts acting.homes entries store m.stacks (v.done + 1)
    holds_then =
        let old = acting.alike.holds in
        record {
          memory = memory' facts m c p level acting ends child;
          few = old.few;
          objects = objects' facts m c p level acting ends child;
          main = old.main;
          mains = old.mains;
          numbers = λ n home is. later n c.table.done v.done (old.numbers n home is) over.done;
        }
      where
        later : (n k k' : ℕ) → n ≤ k → k' ≡ k → n ≤ k' + 1
        later n k k' less same = grind (arith, less, same)

    objects_then : AreObjects g acting.homes entries c'.store facts.number
    objects_then =
        subst (λ (x : Store). AreObjects g acting.homes entries x facts.number) (sym left_is) (objects' facts m c p level acting ends child)

    alike_then : AreAlike facts acting.homes entries m' c'
    alike_then =
        let old = acting.alike in
        record {
          program = old.program;
          words = words_then over.size;
          holds = subst (λ (x : Store). HoldsStore facts acting.homes entries x m.stacks (v.done + 1)) (sym left_is) holds_then;
          kinds =
              same_kinds facts acting.homes acting.entries c c' old.holds.objects
              (record { known = objects_then.known; only = old.holds.objects.only }) refl activity_count old.kinds;
          children = λ away q less. over.quiet main_waits away q less;
          main = main_then;
          between = between_then;
          counts = old.counts;
          monitor_count = old.monitor_count;
          resource_count = old.resource_count;
          rooms = old.rooms;
          fault = old.fault;
        }

    pub represents_ended : Represents facts m' c'
    represents_ended =
        record {
          homes = acting.homes;
          entries = entries;
          alike = alike_then;
          world = ap ticked world_then;
          processes = λ q within. subst (λ (x : Store). RepresentsProcess facts acting.homes entries x m.stacks (ticked v) h q (activity_of g c' q)
              (descriptor_of m'.descriptors q)) (sym left_is) (processes q (either q p) (subst (λ n. q < n) activity_count within));
        }
