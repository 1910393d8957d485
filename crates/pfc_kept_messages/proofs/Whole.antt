-- Behind an action in which processes meet or wait: all that is alike, and one clause for each process.
use Rattle.std.proofs.Common.{◌≡◌, ◌≢◌, ℕ, ◌+◌, ◌^◌, ◌<◌, ◌≤◌, true, false, List, length, get_or, Some, None, Ok, refl, sym, ap, ◌∙◌, subst, arith, ◌⊎◌, inl}
use Rattle.std.proofs.Common.{inr}
use Rattle.std.proofs.lemmas.List.{append-nil, get_or-set_same, get_or-set_other, length-set}
use Rattle.pfc_state.specs.Stands.{Stand, is_unfinished, ticket_of, due_of}
use Rattle.pfc_world.specs.Tables.{Table, at}
use Rattle.pfc_world.specs.Transitions.{ticked}
use Rattle.pfc_semantics.specs.Programs.{Program}
use Rattle.pfc_semantics.specs.Store.{Store}
use Rattle.pfc_semantics.specs.Configurations.{Activity, Config, nobody, activity_of, done_at}
use Rattle.pfc_stacks.specs.Stacks.{Stacks}
use Rattle.pfc_cells.specs.Memory.{MemoryIs}
use Rattle.pfc_machines.specs.declared.machine.Machine.{Machine}
use Rattle.pfc_machines.specs.declared.descriptors.Descriptor.{Descriptor}
use Rattle.pfc_machines.specs.Descriptors.{descriptor_by, descriptor_of}
use Rattle.pfc_machine_acts.specs.Acting.{acted}
use Rattle.pfc_machine_acts.specs.Performing.{silent}
use Rattle.pfc_views.specs.Views.{AreObjects, AreFew}
use Rattle.pfc_representation.specs.Levels.{Facts, program_in, LivingLevel}
use Rattle.pfc_representation.specs.Holding.{Holders, holders_in, is_quiet, waits_at_coend}
use Rattle.pfc_representation.specs.Processes.{RepresentsProcess}
use Rattle.pfc_representation.specs.Machines.{SharesWords, machine_table, HoldsStore, IsBetweenActions, AreAlike, Represents, Agrees, goes_on}
use Rattle.pfc_representation.specs.Acting.{IsActing}
use Rattle.pfc_representation.specs.Actions.{ComeToSame}
use Rattle.pfc_kept_own_actions.proofs.Steps.{same_kinds}

either : (q p : ℕ) → (q ≡ p) ⊎ (q ≢ p)
either q p = grind arith

-- ## Standings

-- a process stands so, and neither waited at `coend` before nor to be begun
pub record IsNewStand (c : Config) (s s' : Stand) : Type 0 where
  pub unfinished : is_unfinished s' ≡ true
  pub awake : is_quiet s ≡ false
  pub no_coend : waits_at_coend s ≡ false
  pub ticket : (t : ℕ) → ticket_of s' ≡ Some t → t ≤ c.table.done + 1
  pub due : (t : ℕ) → due_of s' ≡ Some t → t ≤ 10 ^ 15

-- ## What is to be shown

module _ (facts : Facts) (m : Machine) (c : Config) (p : ℕ) (level : LivingLevel) (acting : IsActing facts m c p level) where
  abbrev g : Program
  g = program_in facts

  abbrev h : Holders
  h = holders_in facts c

  -- behind the action, with the line of the process that acted
  pub record IsBehind (line : ℕ) (activities : List Activity) (descriptors : List Descriptor) (store : Store) (stacks : Stacks) (table : Table) : Type 0 where
    pub activity_count : length activities ≡ length c.activities
    pub descriptor_count : length descriptors ≡ length m.descriptors
    pub stack_count : length stacks ≡ length m.stacks
    pub row_count : length table.rows ≡ length c.table.rows
    pub memory : MemoryIs g acting.homes acting.entries store stacks
    pub few : AreFew stacks
    pub objects : AreObjects g acting.homes acting.entries store facts.number
    pub rests : table.acting ≡ None
    pub done : table.done ≡ c.table.done
    pub moment : table.moment ≡ c.table.moment
    pub stands : (q : ℕ) → (at table.rows q ≡ at c.table.rows q) ⊎ IsNewStand c (at c.table.rows q) (at table.rows q)
    pub mine :
        RepresentsProcess facts acting.homes acting.entries store stacks (ticked table) h p (record (get_or activities p (nobody g)) { line = line })
        (record (descriptor_of descriptors p) { line = line })
    pub others : (q : ℕ) → q ≢ p → q < length c.activities
        → RepresentsProcess facts acting.homes acting.entries store stacks (ticked table) h q (get_or activities q (nobody g)) (descriptor_of descriptors q)

  -- ## What follows

  module _ (line : ℕ) (activities : List Activity) (descriptors : List Descriptor) (store : Store) (stacks : Stacks) (table : Table)
      (behind : IsBehind line activities descriptors store stacks table) where
    abbrev m' : Machine
    m' = acted line p (record m { stacks = stacks; descriptors = descriptors; world = machine_table facts table })

    abbrev c' : Config
    c' = done_at g (record c { activities = activities; store = store; table = table }) p line

    abbrev a' : Activity
    a' = record (get_or activities p (nobody g)) { line = line }

    abbrev d' : Descriptor
    d' = record (descriptor_of descriptors p) { line = line }

    -- ### Lists

    activity_size : length c'.activities ≡ length c.activities
    activity_size = length-set activities p a' ∙ behind.activity_count

    activity_here : activity_of g c' p ≡ a'
    activity_here = get_or-set_same activities p a' (nobody g) (subst (λ n. p < n) (sym behind.activity_count) acting.actor.process)

    activity_there : (q : ℕ) → q ≢ p → activity_of g c' q ≡ get_or activities q (nobody g)
    activity_there q apart = get_or-set_other activities p q a' (nobody g) apart

    descriptor_size : length m'.descriptors ≡ length m.descriptors
    descriptor_size = length-set descriptors p d' ∙ behind.descriptor_count

    descriptor_here : descriptor_of m'.descriptors p ≡ d'
    descriptor_here =
        get_or-set_same descriptors p d' (descriptor_by 0)
        (subst (λ n. p < n) (sym (behind.descriptor_count ∙ acting.alike.words.descriptors)) acting.actor.process)

    descriptor_there : (q : ℕ) → q ≢ p → descriptor_of m'.descriptors q ≡ descriptor_of descriptors q
    descriptor_there q apart = get_or-set_other descriptors p q d' (descriptor_by 0) apart

    processes : (q : ℕ) → (q ≡ p) ⊎ (q ≢ p) → q < length c.activities
        → RepresentsProcess facts acting.homes acting.entries store stacks (ticked table) h q (activity_of g c' q) (descriptor_of m'.descriptors q)
    processes q (inl same) within =
        subst (λ n. RepresentsProcess facts acting.homes acting.entries store stacks (ticked table) h n (activity_of g c' n) (descriptor_of m'.descriptors n))
        (sym same)
        (subst (λ (x : Activity). RepresentsProcess facts acting.homes acting.entries store stacks (ticked table) h p x (descriptor_of m'.descriptors p))
        (sym activity_here)
        (subst (λ (e : Descriptor). RepresentsProcess facts acting.homes acting.entries store stacks (ticked table) h p a' e)
        (sym descriptor_here) behind.mine))
    processes q (inr apart) within =
        subst (λ (x : Activity). RepresentsProcess facts acting.homes acting.entries store stacks (ticked table) h q x (descriptor_of m'.descriptors q))
        (sym (activity_there q apart))
        (subst (λ (e : Descriptor). RepresentsProcess facts acting.homes acting.entries store stacks (ticked table) h q (get_or activities q (nobody g)) e)
        (sym (descriptor_there q apart))
        (behind.others q apart within))

    -- ### Standings

    children : waits_at_coend (at table.rows 0) ≡ false → (q : ℕ) → 0 < q → is_quiet (at table.rows q) ≡ true
    children away q child = by_stand (behind.stands q)
      where
        by_main : (at table.rows 0 ≡ at c.table.rows 0) ⊎ IsNewStand c (at c.table.rows 0) (at table.rows 0) → waits_at_coend (at c.table.rows 0) ≡ false
        by_main (inl same) = ap waits_at_coend (sym same) ∙ away
        by_main (inr new) = new.no_coend

        before : is_quiet (at c.table.rows q) ≡ true
        before = acting.alike.children (by_main (behind.stands 0)) q child

        by_stand : (at table.rows q ≡ at c.table.rows q) ⊎ IsNewStand c (at c.table.rows q) (at table.rows q) → is_quiet (at table.rows q) ≡ true
        by_stand (inl same) = ap is_quiet same ∙ before
        by_stand (inr new) = absurd (let no : true ≡ false = sym before ∙ new.awake in cc)

    main_then : is_unfinished (at table.rows 0) ≡ true
    main_then = by_stand (behind.stands 0)
      where
        by_stand : (at table.rows 0 ≡ at c.table.rows 0) ⊎ IsNewStand c (at c.table.rows 0) (at table.rows 0) → is_unfinished (at table.rows 0) ≡ true
        by_stand (inl same) = ap is_unfinished same ∙ acting.alike.main
        by_stand (inr new) = new.unfinished

    between_then : IsBetweenActions (ticked table)
    between_then =
        let old = acting.alike.between in
        record {
          acting = behind.rests;
          tickets = λ q t is. ticket_then q t (behind.stands q) is;
          moment = more table.moment c.table.moment c.table.done table.done (10 ^ 15) old.moment behind.moment behind.done;
          due = λ q t is. due_then q t (behind.stands q) is;
          done = last c.table.done table.done (10 ^ 18) acting.few behind.done;
        }
      where
        more : (n n0 k k' b : ℕ) → n0 ≤ b + k → n ≡ n0 → k' ≡ k → n + 1 ≤ b + (k' + 1)
        more n n0 k k' b less same same' = grind (arith, less, same, same')

        last : (n k b : ℕ) → n < b → k ≡ n → k + 1 ≤ b
        last n k b less same = grind (arith, less, same)

        later : (n k j : ℕ) → n ≤ k → j ≡ k → n ≤ j + 1
        later n k j less same = grind (arith, less, same)

        next : (n k j : ℕ) → n ≤ k + 1 → j ≡ k → n ≤ j + 1
        next n k j less same = grind (arith, less, same)

        ticket_then : (q t : ℕ) → (at table.rows q ≡ at c.table.rows q) ⊎ IsNewStand c (at c.table.rows q) (at table.rows q)
            → ticket_of (at table.rows q) ≡ Some t
            → t ≤ table.done + 1
        ticket_then q t (inl same) is = later t c.table.done table.done (acting.alike.between.tickets q t (ap ticket_of (sym same) ∙ is)) behind.done
        ticket_then q t (inr new) is = next t c.table.done table.done (new.ticket t is) behind.done

        due_then : (q t : ℕ) → (at table.rows q ≡ at c.table.rows q) ⊎ IsNewStand c (at c.table.rows q) (at table.rows q) → due_of (at table.rows q) ≡ Some t
            → t ≤ 10 ^ 15
        due_then q t (inl same) is = acting.alike.between.due q t (ap due_of (sym same) ∙ is)
        due_then q t (inr new) is = new.due t is

    -- ### All that is alike

    words_then : SharesWords facts m' c'
    words_then =
        let old = acting.alike.words in
        record {
          processes = activity_size ∙ old.processes;
          stacks = behind.stack_count ∙ old.stacks ∙ sym activity_size;
          descriptors = descriptor_size ∙ old.descriptors ∙ sym activity_size;
          rows = behind.row_count ∙ old.rows ∙ sym activity_size;
          semaphores = old.semaphores;
          monitors = old.monitors;
          owners = old.owners;
          resources = old.resources;
          input = old.input;
          draws = old.draws;
          in_line = old.in_line;
        }

    holds_then : HoldsStore facts acting.homes acting.entries store stacks (table.done + 1)
    holds_then =
        let old = acting.alike.holds in
        record {
          memory = behind.memory;
          few = behind.few;
          objects = behind.objects;
          main = old.main;
          mains = old.mains;
          numbers = λ n home is. later n c.table.done table.done (old.numbers n home is) behind.done;
        }
      where
        later : (n k j : ℕ) → n ≤ k → j ≡ k → n ≤ j + 1
        later n k j less same = grind (arith, less, same)

    alike_then : AreAlike facts acting.homes acting.entries m' c'
    alike_then =
        let old = acting.alike in
        record {
          program = old.program;
          words = words_then;
          holds = holds_then;
          kinds = same_kinds facts acting.homes acting.entries c c' old.holds.objects behind.objects refl activity_size old.kinds;
          children = children;
          main = main_then;
          between = between_then;
          counts = old.counts;
          monitor_count = old.monitor_count;
          resource_count = old.resource_count;
          rooms = old.rooms;
          fault = old.fault;
        }

    represents_then : Represents facts m' c'
    represents_then =
        record {
          homes = acting.homes;
          entries = acting.entries;
          alike = alike_then;
          world = refl;
          processes = λ q within. processes q (either q p) (subst (λ n. q < n) activity_size within);
        }

    -- both sides come to the same
    pub comes_then : (world : Table) → world ≡ machine_table facts table
        → ComeToSame facts m c p line (silent (Ok (record m { stacks = stacks; descriptors = descriptors; world = world })))
        (Ok (record c { activities = activities; store = store; table = table }))
    comes_then world same = (
      subst (λ (w : Table). Agrees facts (acted line p (record m { stacks = stacks; descriptors = descriptors; world = w })) c') (sym same)
          (goes_on represents_then),
      sym (append-nil c.output),
    )
