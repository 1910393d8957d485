-- An activation begins: both sides agree behind the action that begins it, counted.
use Rattle.std.proofs.Common.{◌≡◌, ◌≢◌, ℕ, ◌+◌, ◌^◌, ◌<◌, ◌≤◌, ℤ, true, false, List, ◌∷◌, length, slice_get, Option, Some, None, refl, sym, ap}
use Rattle.std.proofs.Common.{◌∙◌, subst, arith, ◌⊎◌, inl, inr}
use Rattle.std.proofs.lemmas.List.{length-set}
use Rattle.pfc_types.specs.declared.types.TypeId.{TypeId}
use Rattle.pfc_monitor.specs.declared.monitors.Monitors.{Monitors}
use Rattle.pfc_state.specs.Stands.{is_unfinished, ticket_of, due_of}
use Rattle.pfc_world.specs.Tables.{Table, at}
use Rattle.pfc_world.specs.Transitions.{ticked, rested}
use Rattle.pfc_semantics.specs.Store.{Store}
use Rattle.pfc_semantics.specs.Values.{Location, path_of}
use Rattle.pfc_semantics.specs.Layouts.{Layout}
use Rattle.pfc_semantics.specs.Programs.{Block, Program}
use Rattle.pfc_semantics.specs.Rewriting.{going}
use Rattle.pfc_semantics.specs.Configurations.{Activity, Config, activity_of, at_work, done_at}
use Rattle.pfc_semantics.specs.Calls.{activated}
use Rattle.pfc_stacks.specs.declared.refs.Ref.{Ref}
use Rattle.pfc_stacks.specs.Stacks.{Stack, Stacks, stack_of}
use Rattle.pfc_cells.specs.Homes.{Home, Homes, Lies, layout_at}
use Rattle.pfc_cells.specs.Memory.{Entries}
use Rattle.pfc_machines.specs.declared.machine.Machine.{Machine}
use Rattle.pfc_machines.specs.declared.descriptors.Descriptor.{Descriptor}
use Rattle.pfc_machines.specs.Actions.{at_rest}
use Rattle.pfc_machines.specs.Descriptors.{descriptor_of, entered, roomier}
use Rattle.pfc_machine_acts.specs.Acting.{acted}
use Rattle.pfc_call_actions.specs.Calls.{activated as machine_activated}
use Rattle.pfc_standing_code.specs.Shapes.{is_object_type}
use Rattle.pfc_standing_code.specs.Settings.{Trial}
use Rattle.pfc_call_laws.specs.Calls.{first_home}
use Rattle.pfc_representation.specs.Levels.{Facts, program_in, LivingLevel, DoesOn}
use Rattle.pfc_representation.specs.Callers.{stack_mark, IsWithin}
use Rattle.pfc_representation.specs.Holding.{Holders, holders_in}
use Rattle.pfc_representation.specs.Trials.{TrialIs, HasTried}
use Rattle.pfc_representation.specs.Processes.{IsAtLevel, IsUnderWay, RepresentsProcess}
use Rattle.pfc_representation.specs.Keeping.{IsUntouched}
use Rattle.pfc_representation.specs.Machines.{machine_table, SharesWords, HoldsStore, IsBetweenActions, AreAlike, Represents}
use Rattle.pfc_representation.specs.Acting.{IsActing}
use Rattle.pfc_representation.proofs.Kept.{process_still}
use Rattle.pfc_representation.proofs.Quiet.{tried_waits}
use Rattle.pfc_kept_own_actions.proofs.Arrived.{descriptor_there as has_descriptor}
use Rattle.pfc_kept_object_actions.proofs.Step.{Objects}
use Rattle.pfc_kept_calls.proofs.Caller.{kinds_still, entries_there, home_here, home_there, either_number}
use Rattle.pfc_kept_calls.proofs.Lists.{stack_beside, own_activity, other_activity, as_many_activities, lined_descriptors, own_descriptor, other_descriptor}
use Rattle.pfc_kept_calls.proofs.Lists.{as_many_descriptors}
use Rattle.pfc_kept_calls.proofs.Inside.{Beginning, IsBegun, table, holders, n, home, homes, mine, entries, store, stack, stacks, display, room, latest}
use Rattle.pfc_kept_calls.proofs.Inside.{activation, inner_level, like, at_home, lenders_stay, is_stack, new_level, goes_within}

module _ (facts : Facts) (m : Machine) (c : Config) (p : ℕ) (level : LivingLevel) (acting : IsActing facts m c p level) (o : Objects) (b : Beginning)
    (is : IsBegun facts m c p level acting o b) where
  abbrev g : Program
  g = program_in facts

  abbrev a : Activity
  a = activity_of g c p

  abbrev d : Descriptor
  d = descriptor_of m.descriptors p

  abbrev s : Stack
  s = stack_of m.stacks p

  abbrev table' : Table
  table' = table facts m c p level acting o b

  abbrev new_homes : Homes
  new_homes = homes facts m c p level acting o b

  abbrev new_entries : Entries
  new_entries = entries facts m c p level acting o b

  abbrev new_store : Store
  new_store = store facts m c p level acting o b

  abbrev new_stack : Stack
  new_stack = stack facts m c p level acting o b

  abbrev new_stacks : Stacks
  new_stacks = stacks facts m c p level acting o b

  abbrev holders' : Holders
  holders' = holders facts m c p level acting o b

  abbrev number : ℕ
  number = n facts m c p level acting o b

  abbrev level' : LivingLevel
  level' = inner_level facts m c p level acting o b

  -- ## What the others keep

  untouched : (q : ℕ) → q ≢ p → IsUntouched facts q acting.homes new_homes acting.entries new_entries c.store new_store m.stacks new_stacks c.table table'
  untouched q apart = record {
    like = λ keeps these. like facts m c p level acting o b keeps;
    lenders = λ r lender. lenders_stay facts m c p level acting o b is.same q r lender;
    stack = stack_beside m.stacks p new_stack q apart;
    entries_same = entries_there acting.entries p (mine facts m c p level acting o b) q apart;
    row = is.same q apart;
  }

  other_still : (q : ℕ) → q < length c.activities → q ≢ p → RepresentsProcess facts new_homes new_entries new_store new_stacks table' holders' q
      (activity_of g c q) (descriptor_of m.descriptors q)
  other_still q less apart =
      let old = acting.others q less apart in
      let e : Descriptor = descriptor_of m.descriptors q in
      process_still facts q e acting.homes new_homes acting.entries new_entries c.store new_store m.stacks new_stacks
      c.table table' (holders_in facts c) holders'
      (record {
        at_home = at_home facts m c p level acting o b;
        untouched = untouched q apart;
        tried = λ r tried. untouched r (λ same. tried_waits facts acting.homes acting.entries c.store m.stacks c.table (holders_in facts c) q e
            (activity_of g c q) r old tried (ap (λ i. at c.table.rows i) same ∙ acting.actor.ready));
        holds = is.change.still q apart;
      }) (activity_of g c q) old

  -- ## The process that calls

  module _ (line : ℕ) where
    abbrev next_activity : Activity
    next_activity = record (at_work a (going b.callee.env b.body)) {
      display = display facts m c p level acting o b;
      activations = activation facts m c p level acting o b ∷ a.activations;
    }

    abbrev a' : Activity
    a' = record next_activity { line = line }

    abbrev d1 : Descriptor
    d1 = entered (roomier d (room facts m c p level acting o b))

    abbrev d' : Descriptor
    d' = record d1 { line = line }

    abbrev pub c' : Config
    c' = done_at g (record (activated g c p b.callee b.mark b.caller b.given b.body) {
      table = o.table;
      counts = o.counts;
      monitors = o.monitors;
      resources = o.resources;
    }) p line

    level_then : IsAtLevel facts new_homes new_entries new_store new_stacks table' holders' p a' d' level'
    level_then =
        let at = new_level facts m c p level acting o b is in
        record { count = at.count; seen = at.seen; callers = at.callers; room = at.room; accepts = at.accepts; met = at.met; holds = at.holds }

    own_trial : (s.looks_from ≡ None) × (d.scan ≡ None)
    own_trial = which acting.actor.trial
      where
        which : TrialIs level.setting.trial facts acting.homes acting.entries c.store m.stacks c.table p level a.activations d ⊎ HasTried
            level.setting.trial facts s level a.activations d
            → (s.looks_from ≡ None) × (d.scan ≡ None)
        which (inl tries) = subst (λ (t : Trial). TrialIs t facts acting.homes acting.entries c.store m.stacks c.table p level a.activations d) is.own tries
        which (inr tried) = absurd (subst (λ (t : Trial). HasTried t facts s level a.activations d) is.own tried)

    goes_on_at : (x : Stack) → stack_of new_stacks p ≡ x → x.operands ≡ b.below → x.at ≡ b.code.entry → x.looks_from ≡ s.looks_from
        → IsUnderWay facts new_homes new_entries new_store new_stacks table' holders' p a' d'
    goes_on_at x there ops at looks =
        let here : (stack_of new_stacks p).at ≡ b.code.entry = ap (λ (y : Stack). y.at) there ∙ at in
        let held : (stack_of new_stacks p).operands ≡ b.below = ap (λ (y : Stack). y.operands) there ∙ ops in
        record {
          unfinished = is.change.unfinished;
          level = level';
          stands = level_then;
          within = subst (λ i. IsWithin facts level' i (latest facts m c p level acting o b)) (sym here) (goes_within facts m c p level acting o b is);
          hand = (
            acting.actor.offered,
            is.change.shows,
            subst (λ i. DoesOn level' i (stack_of new_stacks p).operands (going b.callee.env b.body)) (sym here)
                (subst (λ (xs : List ℤ). DoesOn level' b.code.entry xs (going b.callee.env b.body)) (sym held) is.does),
          );
          trial = (ap (λ (y : Stack). y.looks_from) there ∙ looks ∙ own_trial.0, own_trial.1);
        }

    process_here : RepresentsProcess facts new_homes new_entries new_store new_stacks table' holders' p a' d'
    process_here = record {
      line = refl;
      spare = ap (λ (x : Stack). x.spare) (is_stack facts m c p level acting o b is) ∙ acting.actor.spare;
      activations = goes_on_at new_stack (is_stack facts m c p level acting o b is) is.left refl refl;
    }

    -- ### All lists

    activity_here : activity_of g c' p ≡ a'
    activity_here = own_activity g c.activities p acting.actor.process next_activity line

    activity_there : (q : ℕ) → q ≢ p → activity_of g c' q ≡ activity_of g c q
    activity_there q apart = other_activity g c.activities p acting.actor.process next_activity line q apart

    activity_count : length c'.activities ≡ length c.activities
    activity_count = as_many_activities g c.activities p acting.actor.process next_activity line

    abbrev descriptors' : List Descriptor
    descriptors' = lined_descriptors m.descriptors p (has_descriptor facts m c p level acting) d1 line

    descriptor_here : descriptor_of descriptors' p ≡ d'
    descriptor_here = own_descriptor m.descriptors p (has_descriptor facts m c p level acting) d1 line

    descriptor_there : (q : ℕ) → q ≢ p → descriptor_of descriptors' q ≡ descriptor_of m.descriptors q
    descriptor_there q apart = other_descriptor m.descriptors p (has_descriptor facts m c p level acting) d1 line q apart

    descriptor_count : length descriptors' ≡ length m.descriptors
    descriptor_count = as_many_descriptors m.descriptors p (has_descriptor facts m c p level acting) d1 line

    processes : (q : ℕ) → (q ≡ p) ⊎ (q ≢ p) → q < length c.activities → RepresentsProcess facts new_homes new_entries new_store new_stacks table' holders' q
        (activity_of g c' q) (descriptor_of descriptors' q)
    processes q (inl same) less =
        subst (λ i. RepresentsProcess facts new_homes new_entries new_store new_stacks table' holders' i (activity_of g c' i) (descriptor_of descriptors' i))
        (sym same)
        (subst (λ (x : Activity). RepresentsProcess facts new_homes new_entries new_store new_stacks table' holders' p x (descriptor_of descriptors' p))
        (sym activity_here)
        (subst (λ (e : Descriptor). RepresentsProcess facts new_homes new_entries new_store new_stacks table' holders' p a' e) (sym descriptor_here)
        process_here))
    processes q (inr apart) less =
        subst (λ (x : Activity). RepresentsProcess facts new_homes new_entries new_store new_stacks table' holders' q x (descriptor_of descriptors' q)) (sym
        (activity_there q apart))
        (subst (λ (e : Descriptor). RepresentsProcess facts new_homes new_entries new_store new_stacks table' holders' q (activity_of g c q) e) (sym
        (descriptor_there q apart)) (other_still q less apart))

    -- ### All that is alike

    layout_there : layout_at g (home facts m c p level acting o b) ≡ b.callee.layout
    layout_there = ap (λ (x : Block). x.layout) is.by_scope

    -- no object is among the new variables
    outside : (l : Location) (t : Option TypeId) (r : Ref) → Lies g new_homes l t r → is_object_type g.state.forms t ≡ true → l.activation ≢ number
    outside l t r lies object same =
        let at = lies.is in
        let one : lies.home ≡ home facts m c p level acting o b = (let both : Some lies.home ≡ Some (home facts m c p level acting o b) =
        sym at.at ∙ ap new_homes same ∙ home_here acting.homes number (home facts m c p level acting o b) in cc) in
        let laid : slice_get b.callee.layout l.variable ≡ Some at.meaning =
        ap (λ (x : Layout). slice_get x l.variable) (sym layout_there) ∙ ap (λ (x : Home). slice_get (layout_at g x) l.variable) (sym one) ∙ at.laid in
        let both : true ≡ false = sym object ∙ is.objects l.variable at.meaning (path_of l.selectors) t lies.behind laid at.own at.path in
        cc

    lay : (l : Location) (t : Option TypeId) (r : Ref) → Lies g new_homes l t r → is_object_type g.state.forms t ≡ true → Lies g acting.homes l t r
    lay l t r lies object =
        let at = lies.is in
        record {
          home = lies.home;
          behind = lies.behind;
          is = record {
            at = sym (home_there acting.homes number (home facts m c p level acting o b) l.activation (outside l t r lies object)) ∙ at.at;
            meaning = at.meaning;
            laid = at.laid;
            variable = at.variable;
            own = at.own;
            path = at.path;
          };
          place = lies.place;
        }

    numbered : (y : ℕ) (there : Home) → new_homes y ≡ Some there → y ≤ o.table.done + 1
    numbered y there at = by (either_number y number)
      where
        later : (i k k' : ℕ) → i ≤ k → k' ≡ k → i ≤ k' + 1
        later i k k' less same = grind (arith, less, same)

        now : (i k k' : ℕ) → i ≡ k + 1 → k' ≡ k → i ≤ k' + 1
        now i k k' same done = grind (arith, same, done)

        by : (y ≡ number) ⊎ (y ≢ number) → y ≤ o.table.done + 1
        by (inl same) = now y c.table.done o.table.done same is.change.done
        by (inr apart) = later y c.table.done o.table.done (acting.alike.holds.numbers y there (sym
            (home_there acting.homes number (home facts m c p level acting o b) y apart) ∙ at)) is.change.done

    holds_then : HoldsStore facts new_homes new_entries new_store new_stacks (o.table.done + 1)
    holds_then =
        let old = acting.alike.holds in
        record {
          memory = is.hold.memory;
          few = is.hold.few;
          objects = is.hold.objects;
          main = at_home facts m c p level acting o b 0 (first_home 0 0) old.main;
          mains = λ l t r lies object. old.mains l t r (lay l t r lies object) object;
          numbers = numbered;
        }

    main_then : is_unfinished (at o.table.rows 0) ≡ true
    main_then = by (either_number 0 p)
      where
        by : (0 ≡ p) ⊎ (0 ≢ p) → is_unfinished (at o.table.rows 0) ≡ true
        by (inl same) = ap (λ i. is_unfinished (at o.table.rows i)) same ∙ is.change.unfinished
        by (inr apart) = ap is_unfinished (is.same 0 apart) ∙ acting.alike.main

    between_then : IsBetweenActions table'
    between_then =
        let old = acting.alike.between in
        record {
          acting = is.change.acting;
          tickets = λ q t so. ticket_then q (either_number q p) t so;
          moment = more o.table.moment c.table.moment c.table.done o.table.done (10 ^ 15) old.moment is.change.moment is.change.done;
          due = λ q t so. due_then q (either_number q p) t so;
          done = last c.table.done o.table.done (10 ^ 18) acting.few is.change.done;
        }
      where
        more : (i i0 k k' most : ℕ) → i0 ≤ most + k → i ≡ i0 → k' ≡ k → i + 1 ≤ most + (k' + 1)
        more i i0 k k' most less same same' = grind (arith, less, same, same')

        last : (i k most : ℕ) → i < most → k ≡ i → k + 1 ≤ most
        last i k most less same = grind (arith, less, same)

        next : (t k k' : ℕ) → t ≤ k + 1 → k' ≡ k → t ≤ k' + 1
        next t k k' less same = grind (arith, less, same)

        later : (t k k' : ℕ) → t ≤ k → k' ≡ k → t ≤ k' + 1
        later t k k' less same = grind (arith, less, same)

        ticket_then : (q : ℕ) → (q ≡ p) ⊎ (q ≢ p) → (t : ℕ) → ticket_of (at o.table.rows q) ≡ Some t → t ≤ o.table.done + 1
        ticket_then q (inl same) t so =
            next t c.table.done o.table.done (is.change.ticket t (ap (λ i. ticket_of (at o.table.rows i)) (sym same) ∙ so)) is.change.done
        ticket_then q (inr apart) t so =
            later t c.table.done o.table.done (acting.alike.between.tickets q t (ap ticket_of (sym (is.same q apart)) ∙ so)) is.change.done

        due_then : (q : ℕ) → (q ≡ p) ⊎ (q ≢ p) → (t : ℕ) → due_of (at o.table.rows q) ≡ Some t → t ≤ 10 ^ 15
        due_then q (inl same) t so = is.change.due t (ap (λ i. due_of (at o.table.rows i)) (sym same) ∙ so)
        due_then q (inr apart) t so = acting.alike.between.due q t (ap due_of (sym (is.same q apart)) ∙ so)

    module _ (world : Table) (monitors : Monitors) (resources : List (Option ℕ)) (same_world : rested world ≡ machine_table facts o.table)
        (same_counts : o.counts ≡ c.counts) (same_monitors : monitors.holders ≡ o.monitors) (same_owners : monitors.owners ≡ m.monitors.owners)
        (same_resources : resources ≡ o.resources) where
      abbrev pub m' : Machine
      m' = acted line p (at_rest (record (machine_activated b.number b.code b.link (stack_mark b.mark) p m) {
        world = world;
        monitors = monitors;
        resources = resources;
      }))

      words_then : SharesWords facts m' c'
      words_then =
          let old = acting.alike.words in
          record {
            processes = activity_count ∙ old.processes;
            stacks = length-set m.stacks p new_stack ∙ old.stacks ∙ sym activity_count;
            descriptors = descriptor_count ∙ old.descriptors ∙ sym activity_count;
            rows = is.change.rows ∙ old.rows ∙ sym activity_count;
            semaphores = old.semaphores ∙ sym same_counts;
            monitors = same_monitors;
            owners = same_owners ∙ old.owners;
            resources = same_resources;
            input = old.input;
            draws = old.draws;
            in_line = old.in_line;
          }

      alike_then : AreAlike facts new_homes new_entries m' c'
      alike_then =
          let old = acting.alike in
          record {
            program = old.program;
            words = words_then;
            holds = holds_then;
            kinds = kinds_still facts acting.homes new_homes acting.entries new_entries c c' old.holds.objects
                is.hold.objects is.change.counts activity_count lay
                old.kinds;
            children = is.change.children;
            main = main_then;
            between = between_then;
            counts = is.change.counts ∙ old.counts;
            monitor_count = is.change.monitors ∙ old.monitor_count;
            resource_count = is.change.resources ∙ old.resource_count;
            rooms = old.rooms;
            fault = old.fault;
          }

      -- Behind the action, counted, the machine represents what the source text has come to.
      pub represents_begun : Represents facts m' c'
      represents_begun = record {
        homes = new_homes;
        entries = new_entries;
        alike = alike_then;
        world = ap ticked same_world;
        processes = λ q less. processes q (either_number q p) (subst (λ i. q < i) activity_count less);
      }
