-- `initial`, `wait` and `signal`.
use Rattle.std.proofs.Common.{◌≡◌, ℕ, ◌+◌, ◌-◌, ◌<◌, ◌≤◌, ◌==◌, ℤ, pos, negsuc, Bool, true, false, if◌then◌else◌, List, [], ◌∷◌, length, set, drop}
use Rattle.std.proofs.Common.{Option, Some, None, Ok, Err, refl, sym, ap, ◌∙◌, subst, arith}
use Rattle.std.specs.Prelude.{is_some}
use Rattle.std.proofs.lemmas.List.{length-set}
use Rattle.pfc_base.specs.declared.faults.RunFault.TheVariants.{Negative, Count}
use Rattle.pfc_code.specs.declared.instructions.Instr.{Instr}
use Rattle.pfc_code.specs.declared.instructions.Instr.TheVariants.{SINI, SWAIT, SSIG}
use Rattle.pfc_code.specs.Images.{PlainImage}
use Rattle.pfc_types.specs.Types.{semaphore}
use Rattle.pfc_state.specs.Stands.{Stand, Is_idle, Is_created, Is_ready, Is_done, Waits, ticket_at}
use Rattle.pfc_state.specs.declared.waits.Why.TheVariants.{Semaphore}
use Rattle.pfc_world.specs.Partners.{semaphore_waiter}
use Rattle.pfc_world.specs.Semaphores.{Counted, counted, count_of, counting, is_below_zero, initialised, waited, is_overfull, signalled, signalled_to}
use Rattle.pfc_world.specs.Tables.{Table, at}
use Rattle.pfc_world.specs.Transitions.{blocked, rested}
use Rattle.pfc_values.specs.declared.simple.Simple.TheVariants.{Integer}
use Rattle.pfc_values.specs.Numbers.{is_of}
use Rattle.pfc_semantics.specs.Displays.{Spot}
use Rattle.pfc_semantics.specs.Programs.{Block, Program}
use Rattle.pfc_semantics.specs.Remainders.{Context, Remainder, initials, waits, signals}
use Rattle.pfc_semantics.specs.Rewriting.{going}
use Rattle.pfc_semantics.specs.Configurations.{Config, Effect, goes_on, number_for, counted as counted_in, with_counted}
use Rattle.pfc_semantics.specs.Semaphores.{initials_at, waits_for, signals_to}
use Rattle.pfc_translation.specs.Images.{image_of}
use Rattle.pfc_stacks.specs.Refs.{number_of}
use Rattle.pfc_stacks.specs.Stacks.{stack_of, operand, operands_of}
use Rattle.pfc_machines.specs.declared.machine.Machine.{Machine}
use Rattle.pfc_machines.specs.Actions.{at_rest, Effect as MachineEffect}
use Rattle.pfc_machines.specs.Quiet.{left_by}
use Rattle.pfc_object_actions.specs.Objects.{object_at}
use Rattle.pfc_object_actions.specs.Semaphores.{with_semaphores, initials as machine_initials, waits as machine_waits, signals as machine_signals}
use Rattle.pfc_machine_acts.specs.Performing.{silent}
use Rattle.pfc_standing_code.specs.Settings.{of_own, IsAt}
use Rattle.pfc_standing_code.specs.Words.{IsChecked}
use Rattle.pfc_standing_code.specs.Performs.{Alone}
use Rattle.pfc_standing_code.specs.Following.{ObjectAt}
use Rattle.pfc_following_source.specs.Behind.{GoesOnAt}
use Rattle.pfc_following_source.proofs.Behind.{leads_on}
use Rattle.pfc_representation.specs.Levels.{Facts, program_in, LivingLevel}
use Rattle.pfc_representation.specs.Holding.{holders_in, is_quiet, waits_at_coend}
use Rattle.pfc_representation.specs.Machines.{machine_table}
use Rattle.pfc_representation.specs.Acting.{IsActing, HasArrived}
use Rattle.pfc_representation.specs.Actions.{ComeToSame, IsKept, AreKept}
use Rattle.pfc_kept_own_actions.proofs.Alone.{refuse, can_go}
use Rattle.pfc_kept_own_actions.proofs.Arrived.{stack_there, code_there, code_line, acts_now}
use Rattle.pfc_kept_object_actions.specs.Freed.{HasItsTurn, may_be_freed}
use Rattle.pfc_kept_object_actions.specs.Groups.{IsOfSemaphore}
use Rattle.pfc_kept_object_actions.proofs.Step.{Objects, IsChange, IsStep}
use Rattle.pfc_kept_object_actions.proofs.Finding.{first_has}
use Rattle.pfc_kept_object_actions.proofs.Numbers.{IsNumber, semaphore_number}
use Rattle.pfc_kept_object_actions.proofs.Popped.{step_of, comes_then, world, rests, counted_so, counts_change}
use Rattle.pfc_kept_object_actions.proofs.Blocking.{blocked_so, blocks, freed_so, frees}

-- ## Who waits on a semaphore

record IsAtSemaphore (s : Stand) : Type 0 where
  may : may_be_freed s ≡ true
  runs : is_quiet s ≡ false
  no_coend : waits_at_coend s ≡ false
  has : (facts : Facts) (c : Config) (q : ℕ) → HasItsTurn (holders_in facts c) q s

at_semaphore : (n : ℕ) (s : Stand) → is_some (ticket_at (Semaphore n) s) ≡ true → IsAtSemaphore s
at_semaphore n Is_idle h = absurd (let no : false ≡ true = h in cc)
at_semaphore n Is_created h = absurd (let no : false ≡ true = h in cc)
at_semaphore n Is_ready h = absurd (let no : false ≡ true = h in cc)
at_semaphore n Is_done h = absurd (let no : false ≡ true = h in cc)
at_semaphore n (Waits (Semaphore k) ticket arms) h =
    record {
      may = refl;
      runs = refl;
      no_coend = refl;
      has = λ facts c q. record {
        monitors = λ m waits. absurd (let no : false ≡ true = waits in cc);
        resources = λ r waits. absurd
            (let no : false ≡ true = waits in cc);
      };
    }
at_semaphore n (Waits why ticket arms) h = absurd (let no : false ≡ true = h in cc)

-- ## Both sides

module _ (facts : Facts) (m : Machine) (c : Config) (p choice : ℕ) (level : LivingLevel) (x : Context) (v : Spot) (r : Remainder)
    (own : level.setting.trial ≡ of_own)
    (acting : IsActing facts m c p level) where
  abbrev here : ℕ
  here = (stack_of m.stacks p).at

  abbrev ops : List ℤ
  ops = operands_of m.stacks p

  abbrev image : PlainImage
  image = image_of facts.tree

  abbrev g : Program
  g = program_in facts

  abbrev left : List ℤ
  left = drop 1 ops

  abbrev w : Table
  w = world facts m c p level acting

  abbrev waited_by : ℕ → Bool → Counted → Counted
  waited_by k zero y = if zero then record { table = blocked y.table p (Semaphore k) []; counts = y.counts } else counting y k (count_of y k - 1)

  abbrev signalled_by : ℕ → Bool → Counted → MachineEffect
  signalled_by k full y = if full then Err Count else Ok (at_rest (with_semaphores (left_by m p 1) (signalled y k)))

  abbrev signals_by : ℕ → Bool → Effect
  signals_by k full = if full then Err Count else Ok (with_counted (goes_on g c p x r) (signalled (counted_in c) k))

  -- where each change is a step, both sides come to the same
  module _ (k : ℕ) (steps : (o : Objects) → IsChange facts c p o → IsStep facts m c p level acting (here + 1) left (going x.env r) o) where
    -- a count changes
    counts_so : (n : ℕ) → ComeToSame facts m c p x.line (silent (Ok (at_rest (with_semaphores (left_by m p 1) (counting (counted w c.counts) k n)))))
        (Ok (with_counted (goes_on g c p x r) (counting (counted_in c) k n)))
    counts_so n =
        comes_then facts m c p level acting (here + 1) left (going x.env r) (counted_so facts m c p level acting (set c.counts k n)) x.line
        (steps (counted_so facts m c p level acting (set c.counts k n)) (counts_change facts m c p level acting (set c.counts k n) (length-set c.counts k n)))
        _ (set c.counts k n)
        m.monitors m.resources (rests facts m c p level acting) refl acting.alike.words.monitors refl acting.alike.words.resources

    waited_same : (zero : Bool) → ComeToSame facts m c p x.line
        (silent (Ok (at_rest (with_semaphores (left_by m p 1) (waited_by k zero (counted w c.counts))))))
        (Ok (with_counted (goes_on g c p x r) (waited_by k zero (counted_in c))))
    waited_same false = counts_so _
    waited_same true =
        let o : Objects = blocked_so facts m c p level acting (Semaphore k) in
        comes_then facts m c p level acting (here + 1) left (going x.env r) o x.line
        (steps o (blocks facts m c p level acting (Semaphore k) refl (λ t is. absurd (let no : None ≡ Some t = is in cc)))) _ c.counts m.monitors m.resources
        refl refl
        acting.alike.words.monitors refl acting.alike.words.resources

    signalled_same : (o : Option ℕ) → semaphore_waiter c.table.rows k ≡ o
        → ComeToSame facts m c p x.line (silent (Ok (at_rest (with_semaphores (left_by m p 1) (signalled_to o (counted w c.counts) k)))))
        (Ok (with_counted (goes_on g c p x r) (signalled_to o (counted_in c) k)))
    signalled_same None is = counts_so _
    signalled_same (Some f) is =
        let o : Objects = freed_so facts m c p level acting f in
        let waits : IsAtSemaphore (at c.table.rows f) = at_semaphore k (at c.table.rows f) (first_has (ticket_at (Semaphore k)) c.table.rows f is) in
        comes_then facts m c p level acting (here + 1) left (going x.env r) o x.line
        (steps o (frees facts m c p level acting f waits.may waits.runs waits.no_coend (waits.has facts c f))) _ c.counts m.monitors m.resources
        (ap (λ (who : Option ℕ). record (record (machine_table facts c.table) { rows = set c.table.rows f Is_ready }) { acting = who })
        (sym acting.alike.between.acting)) refl
        acting.alike.words.monitors refl acting.alike.words.resources

    signals_same : (full : Bool) → ComeToSame facts m c p x.line (silent (signalled_by k full (counted w c.counts))) (signals_by k full)
    signals_same true = refuse facts m c p level acting x.line Count
    signals_same false = signalled_same (semaphore_waiter c.table.rows k) refl

  -- ## The instructions

  module _ (b : Block) (checked : IsChecked level.setting b x.env) (i : Instr)
      (clear : Alone level.setting level.arms (ObjectAt level.setting b x here ops v semaphore i r)) where
    there : IsAt level.setting here i x.line
    there = clear.1.4

    number : IsNumber facts m c p level acting own b x v clear.1.0 checked (length c.counts)
    number = semaphore_number facts m c p level acting own b x v clear.1.0 checked clear.1.3

    object_is : object_at 0 p m ≡ number.k
    object_is = ap (λ (os : List ℤ). number_of (operand os 0)) clear.1.2 ∙ number.word

    known : object_at 0 p m < length m.semaphores
    known = subst (λ j. j < length m.semaphores) (sym object_is) (subst (λ (cs : List ℕ). number.k < length cs) (sym acting.alike.words.semaphores) number.few)

    one_held : 1 ≤ length ops
    one_held = (let size = ap (λ (os : List ℤ). length os) clear.1.2 in grind (arith, size))

    waits_are : machine_waits p m ≡ Ok (at_rest (with_semaphores (left_by m p 1) (waited (counted w c.counts) p number.k)))
    waits_are =
        ap (λ (j : ℕ). Ok (at_rest (with_semaphores (left_by m p 1) (waited (counted m.world m.semaphores) p j)))) object_is
        ∙ ap (λ (y : Table). Ok (at_rest (with_semaphores (left_by m p 1) (waited (counted y m.semaphores) p number.k)))) acting.world
        ∙ ap (λ (cs : List ℕ). Ok (at_rest (with_semaphores (left_by m p 1) (waited (counted w cs) p number.k)))) acting.alike.words.semaphores

    abbrev signals_with : ℕ → Table → List ℕ → MachineEffect
    signals_with j y cs = signalled_by j (is_overfull (counted y cs) j) (counted y cs)

    signals_are : machine_signals p m ≡ signals_with number.k w c.counts
    signals_are =
        ap (λ (j : ℕ). signals_with j m.world m.semaphores) object_is
        ∙ ap (λ (y : Table). signals_with number.k y m.semaphores) acting.world
        ∙ ap (λ (cs : List ℕ). signals_with number.k w cs) acting.alike.words.semaphores

  pub wait_kept : (arrived : HasArrived facts m c p level (waits x v r)) (b : Block) (checked : IsChecked level.setting b x.env)
      → Alone level.setting level.arms (ObjectAt level.setting b x here ops v semaphore SWAIT r) → IsKept facts m c p choice (waits x v r)
  wait_kept arrived b checked clear =
      let at : IsAt level.setting here SWAIT x.line = there b checked SWAIT clear in
      let held : 1 ≤ length ops = one_held b checked SWAIT clear in
      let n = number b checked SWAIT clear in
      let goes : GoesOnAt level.setting b (here + 1) left [] (going x.env r) = leads_on level.setting b here (waits x v r) ops level.arms arrived.room checked
      clear SWAIT x.line at in
      let same = waited_same n.k (λ o change. step_of facts m c p level acting own b SWAIT x.line left (going x.env r) o checked.beside at refl clear.0.1 goes
      arrived.within arrived.arms change)
      (count_of (counted_in c) n.k == 0) in
      record {
        instr = SWAIT;
        is = code_there facts m c p level acting here SWAIT x.line at;
        can_step = record {
          stack = stack_there facts m c p level acting;
          performed = record { held = held; room = grind arith; reach = tt };
          goes = λ outward. can_go facts m c p level acting SWAIT x.line at refl held arrived.within;
        };
        no_move = tt;
        can_do = record { acting = acts_now facts m c p level acting SWAIT x.line at; can = known b checked SWAIT clear };
        line = code_line facts m c p level acting here SWAIT x.line at;
        choices = refl;
        same =
            subst (λ (e : MachineEffect). ComeToSame facts m c p x.line (silent e) (waits_for g c p x v r)) (sym (waits_are b checked SWAIT clear))
            (subst (λ (j : ℕ). ComeToSame facts m c p x.line (silent (Ok (at_rest (with_semaphores (left_by m p 1) (waited (counted w c.counts) p n.k)))))
            (Ok (with_counted (goes_on g c p x r) (waited (counted_in c) p j)))) (sym n.spot) same);
      }

  pub signal_kept : (arrived : HasArrived facts m c p level (signals x v r)) (b : Block) (checked : IsChecked level.setting b x.env)
      → Alone level.setting level.arms (ObjectAt level.setting b x here ops v semaphore SSIG r) → IsKept facts m c p choice (signals x v r)
  signal_kept arrived b checked clear =
      let at : IsAt level.setting here SSIG x.line = there b checked SSIG clear in
      let held : 1 ≤ length ops = one_held b checked SSIG clear in
      let n = number b checked SSIG clear in
      let goes : GoesOnAt level.setting b (here + 1) left [] (going x.env r) = leads_on level.setting b here (signals x v r) ops level.arms arrived.room
      checked clear SSIG x.line at in
      let same = signals_same n.k (λ o change. step_of facts m c p level acting own b SSIG x.line left (going x.env r) o checked.beside at refl clear.0.1 goes
      arrived.within arrived.arms change)
      (is_overfull (counted_in c) n.k) in
      record {
        instr = SSIG;
        is = code_there facts m c p level acting here SSIG x.line at;
        can_step = record {
          stack = stack_there facts m c p level acting;
          performed = record { held = held; room = grind arith; reach = tt };
          goes = λ outward. can_go facts m c p level acting SSIG x.line at refl held arrived.within;
        };
        no_move = tt;
        can_do = record { acting = acts_now facts m c p level acting SSIG x.line at; can = known b checked SSIG clear };
        line = code_line facts m c p level acting here SSIG x.line at;
        choices = refl;
        same =
            subst (λ (e : MachineEffect). ComeToSame facts m c p x.line (silent e) (signals_to g c p x v r)) (sym (signals_are b checked SSIG clear))
            (subst (λ (j : ℕ). ComeToSame facts m c p x.line (silent (signals_with b checked SSIG clear n.k w c.counts))
            (signals_by j (is_overfull (counted_in c) j)))
            (sym n.spot) same);
      }

  -- ## `initial`

  module _ (n : ℤ) (b : Block) (checked : IsChecked level.setting b x.env)
      (clear : Alone level.setting level.arms ((rest : List ℤ) × (ops ≡ n ∷ rest) × ObjectAt level.setting b x here rest v semaphore SINI r)) where
    initial_there : IsAt level.setting here SINI x.line
    initial_there = clear.1.2.4

    initial_number : IsNumber facts m c p level acting own b x v clear.1.2.0 checked (length c.counts)
    initial_number = semaphore_number facts m c p level acting own b x v clear.1.2.0 checked clear.1.2.3

    two_on_top : ops ≡ n ∷ clear.1.2.0 ∷ clear.1.2.1
    two_on_top = clear.1.1 ∙ ap (λ (os : List ℤ). n ∷ os) clear.1.2.2

    under_is : object_at 1 p m ≡ initial_number.k
    under_is = ap (λ (os : List ℤ). number_of (operand os 1)) two_on_top ∙ initial_number.word

    top_is : operand ops 0 ≡ n
    top_is = ap (λ (os : List ℤ). operand os 0) two_on_top

    two_held : 2 ≤ length ops
    two_held = (let size = ap (λ (os : List ℤ). length os) two_on_top in grind (arith, size))

    known_under : object_at 1 p m < length m.semaphores
    known_under = subst (λ j. j < length m.semaphores) (sym under_is)
        (subst (λ (cs : List ℕ). initial_number.k < length cs) (sym acting.alike.words.semaphores) initial_number.few)

  abbrev initials_with : ℤ → ℕ → List ℕ → MachineEffect
  initials_with n j cs = if is_below_zero n then Err Negative else Ok (at_rest (record (left_by m p 2) { semaphores = initialised cs j n }))

  initials_are : (n : ℤ) (k : ℕ) → operand ops 0 ≡ n → object_at 1 p m ≡ k → machine_initials p m ≡ initials_with n k c.counts
  initials_are n k top under =
      ap (λ (i : ℤ). initials_with i (object_at 1 p m) m.semaphores) top
      ∙ ap (λ (j : ℕ). initials_with n j m.semaphores) under
      ∙ ap (λ (cs : List ℕ). initials_with n k cs) acting.alike.words.semaphores

  initials_same : (k : ℕ) (n : ℤ) → ((o : Objects) → IsChange facts c p o → IsStep facts m c p level acting (here + 1) (drop 2 ops) (going x.env r) o)
      → number_for g c p v ≡ k
      → ComeToSame facts m c p x.line (silent (initials_with n k c.counts)) (initials_at g c p x v n r)
  initials_same k (negsuc n) steps spot = refuse facts m c p level acting x.line Negative
  initials_same k (pos n) steps spot =
      let o : Objects = counted_so facts m c p level acting (set c.counts k n) in
      let same = comes_then facts m c p level acting (here + 1) (drop 2 ops) (going x.env r) o x.line
      (steps o (counts_change facts m c p level acting (set c.counts k n) (length-set c.counts k n)))
      (rested m.world) (set c.counts k n) m.monitors m.resources (ap rested acting.world ∙ rests facts m c p level acting) refl acting.alike.words.monitors
      refl acting.alike.words.resources in
      subst (λ (j : ℕ). ComeToSame facts m c p x.line (silent (Ok (at_rest (record (left_by m p 2) { semaphores = set c.counts k n }))))
      (Ok (with_counted (goes_on g c p x r) (counting (counted_in c) j n)))) (sym spot) same

  pub initial_kept : (n : ℤ) (arrived : HasArrived facts m c p level (initials x v n r)) (b : Block) (checked : IsChecked level.setting b x.env)
      → Alone level.setting level.arms ((rest : List ℤ) × (ops ≡ n ∷ rest) × ObjectAt level.setting b x here rest v semaphore SINI r)
      → IsKept facts m c p choice (initials x v n r)
  initial_kept n arrived b checked clear =
      let at : IsAt level.setting here SINI x.line = initial_there n b checked clear in
      let held : 2 ≤ length ops = two_held n b checked clear in
      let k = initial_number n b checked clear in
      let goes : GoesOnAt level.setting b (here + 1) (drop 2 ops) [] (going x.env r) = leads_on level.setting b here (initials x v n r) ops level.arms
      arrived.room checked clear SINI x.line at in
      let same = initials_same k.k n (λ o change. step_of facts m c p level acting own b SINI x.line (drop 2 ops) (going x.env r) o checked.beside at refl
      clear.0.1 goes arrived.within arrived.arms change) k.spot in
      let integer : is_of Integer (operand ops 0) ≡ true = ap (λ (i : ℤ). is_of Integer i) (top_is n b checked clear) ∙ arrived.number in
      record {
        instr = SINI;
        is = code_there facts m c p level acting here SINI x.line at;
        can_step = record {
          stack = stack_there facts m c p level acting;
          performed = record { held = held; room = grind arith; reach = tt };
          goes = λ outward. can_go facts m c p level acting SINI x.line at refl held arrived.within;
        };
        no_move = tt;
        can_do = record {
          acting = acts_now facts m c p level acting SINI x.line at;
          can = record { integer = integer; known = known_under n b checked clear };
        };
        line = code_line facts m c p level acting here SINI x.line at;
        choices = refl;
        same =
            subst (λ (e : MachineEffect). ComeToSame facts m c p x.line (silent e) (initials_at g c p x v n r))
            (sym (initials_are n k.k (top_is n b checked clear) (under_is n b checked clear))) same;
      }

pub semaphores_kept : AreKept IsOfSemaphore
semaphores_kept facts m c p choice level (initials x v n k) is acting arrived chosen =
    let (b, checked, by) = arrived.arrived in initial_kept facts m c p choice level x v k by.0.0 acting n arrived b checked by
semaphores_kept facts m c p choice level (waits x v k) is acting arrived chosen =
    let (b, checked, by) = arrived.arrived in wait_kept facts m c p choice level x v k by.0.0 acting arrived b checked by
semaphores_kept facts m c p choice level (signals x v k) is acting arrived chosen =
    let (b, checked, by) = arrived.arrived in signal_kept facts m c p choice level x v k by.0.0 acting arrived b checked by
semaphores_kept facts m c p choice level n is acting arrived chosen = absurd is
