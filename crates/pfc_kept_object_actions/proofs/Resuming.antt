-- `resume`, by who holds the monitor where somebody waits on the condition.
use Rattle.std.proofs.Common.{◌≡◌, ◌≢◌, ℕ, ◌+◌, ◌<◌, ◌≤◌, ◌==◌, ◌&&◌, if◌then◌else◌, ℤ, Bool, true, false, List, [], length, get_or, drop, Option, Some}
use Rattle.std.proofs.Common.{None, Ok, refl, sym, ap, ◌∙◌, subst, arith, ◌⊎◌, inl, inr}
use Rattle.std.specs.Prelude.{not, is_some}
use Rattle.std.specs.Ordering.{int_eq}
use Rattle.pfc_code.specs.declared.instructions.Instr.TheVariants.{RESUME}
use Rattle.pfc_monitor.specs.declared.monitors.Monitors.{Monitors}
use Rattle.pfc_types.specs.Types.{condition}
use Rattle.pfc_state.specs.Stands.{Stand, Is_idle, Is_created, Is_ready, Is_done, Waits, ticket_at}
use Rattle.pfc_state.specs.declared.waits.Why.TheVariants.{Condition, Resumer}
use Rattle.pfc_world.specs.Firsts.{least_rank, first_with_rank}
use Rattle.pfc_world.specs.Holders.{Held, held_in, holder_in}
use Rattle.pfc_world.specs.Monitors.{resumed, resumed_with}
use Rattle.pfc_world.specs.Partners.{condition_waiter, is_empty_condition}
use Rattle.pfc_world.specs.Tables.{Table, at}
use Rattle.pfc_world.specs.Transitions.{rested}
use Rattle.pfc_semantics.specs.Displays.{Spot}
use Rattle.pfc_semantics.specs.Programs.{Block, Program}
use Rattle.pfc_semantics.specs.Remainders.{Context, Remainder, resumes}
use Rattle.pfc_semantics.specs.Rewriting.{going}
use Rattle.pfc_semantics.specs.Configurations.{Config, goes_on, monitors_held, with_monitors}
use Rattle.pfc_semantics.specs.Monitors.{resumes_at}
use Rattle.pfc_stacks.specs.Refs.{number_of}
use Rattle.pfc_stacks.specs.Stacks.{stack_of, operand, operands_of}
use Rattle.pfc_machines.specs.declared.machine.Machine.{Machine}
use Rattle.pfc_machines.specs.Actions.{at_rest, Effect as MachineEffect}
use Rattle.pfc_machines.specs.Quiet.{left_by}
use Rattle.pfc_object_actions.specs.Objects.{object_at}
use Rattle.pfc_object_actions.specs.Conditions as machine
use Rattle.pfc_machine_acts.specs.Performing.{silent}
use Rattle.pfc_standing_code.specs.Settings.{of_own, IsAt}
use Rattle.pfc_standing_code.specs.Words.{IsChecked}
use Rattle.pfc_standing_code.specs.Performs.{Alone}
use Rattle.pfc_standing_code.specs.Following.{ObjectAt}
use Rattle.pfc_following_source.specs.Behind.{GoesOnAt}
use Rattle.pfc_following_source.proofs.Behind.{leads_on}
use Rattle.pfc_representation.specs.Levels.{Facts, program_in, LivingLevel}
use Rattle.pfc_representation.specs.Holding.{is_quiet, waits_at_coend}
use Rattle.pfc_representation.specs.Acting.{IsActing, HasArrived}
use Rattle.pfc_representation.specs.Actions.{ComeToSame, IsKept}
use Rattle.pfc_kept_own_actions.proofs.Alone.{can_go}
use Rattle.pfc_kept_own_actions.proofs.Arrived.{stack_there, code_there, code_line, acts_now}
use Rattle.pfc_kept_object_actions.specs.Freed.{may_be_freed}
use Rattle.pfc_kept_object_actions.specs.Groups.{HoldsToResume}
use Rattle.pfc_kept_object_actions.proofs.Step.{Objects, IsChange, IsStep}
use Rattle.pfc_kept_object_actions.proofs.Finding.{first_has}
use Rattle.pfc_kept_object_actions.proofs.Numbers.{IsNumber, condition_number}
use Rattle.pfc_kept_object_actions.proofs.Popped.{step_of, comes_then, world, rests, counted_so, counts_change}
use Rattle.pfc_kept_object_actions.proofs.Handing.{WaitsFor, passed_so, passes_on}
use Rattle.pfc_kept_object_actions.proofs.Tests.{either, same_numbers, numbers_same, untrue}

-- ## Who waits on a condition

both_true : (a b : Bool) (ticket : ℕ) → is_some (if a && b then Some ticket else None) ≡ true → a ≡ true
both_true true b ticket h = refl
both_true false b ticket h = untrue _ h

at_condition : (owners : List ℕ) (k : ℕ) (rank : ℤ) (s : Stand) → is_some (ticket_at (Condition k rank) s) ≡ true → WaitsFor owners (get_or owners k 0) s
at_condition owners k rank Is_idle h = untrue _ h
at_condition owners k rank Is_created h = untrue _ h
at_condition owners k rank Is_ready h = untrue _ h
at_condition owners k rank Is_done h = untrue _ h
at_condition owners k rank (Waits (Condition j r) ticket arms) h =
    let same : j ≡ k = numbers_same j k (both_true (j == k) (int_eq r rank) ticket h) in
    record {
      may = refl;
      runs = refl;
      no_coend = refl;
      only = λ m waits. sym (numbers_same (get_or owners j 0) m waits) ∙ ap (λ i. get_or owners i 0) same;
      none = λ r. refl;
    }
at_condition owners k rank (Waits why ticket arms) h = untrue _ h

waiter_waits : (owners : List ℕ) (rows : List Stand) (k q : ℕ) → condition_waiter rows k ≡ Some q → WaitsFor owners (get_or owners k 0) (at rows q)
waiter_waits owners rows k q is = by_rank (least_rank k rows) is
  where
    by_rank : (o : Option ℤ) → first_with_rank k o rows ≡ Some q → WaitsFor owners (get_or owners k 0) (at rows q)
    by_rank None h = (let no : None ≡ Some q = h in absurd (cc))
    by_rank (Some rank) h = at_condition owners k rank (at rows q) (first_has (ticket_at (Condition k rank)) rows q h)

module _ (facts : Facts) (m : Machine) (c : Config) (p choice : ℕ) (level : LivingLevel) (x : Context) (v : Spot) (r : Remainder)
    (own : level.setting.trial ≡ of_own)
    (acting : IsActing facts m c p level) where
  abbrev here : ℕ
  here = (stack_of m.stacks p).at

  abbrev ops : List ℤ
  ops = operands_of m.stacks p

  abbrev g : Program
  g = program_in facts

  abbrev owners : List ℕ
  owners = g.objects.conditions

  abbrev w : Table
  w = world facts m c p level acting

  abbrev same_monitors : m.monitors.holders ≡ c.monitors
  same_monitors = acting.alike.words.monitors

  abbrev same_owners : m.monitors.owners ≡ owners
  same_owners = acting.alike.words.owners

  abbrev with_holders : List (Option ℕ) → Monitors
  with_holders holders = record m.monitors { holders = holders }

  -- where somebody waits on condition k, a child that acts holds its monitor
  abbrev MayResume : ℕ → Type 0
  MayResume k = p ≢ 0 → is_empty_condition c.table.rows k ≡ false → holder_in c.monitors (get_or owners k 0) ≡ Some p

  -- while main acts no other process has begun, or all have finished
  none_waits : p ≡ 0 → (q : ℕ) → is_quiet (at c.table.rows q) ≡ false → may_be_freed (at c.table.rows q) ≡ true → ⊥
  none_waits main q runs may = by_number (either q 0)
    where
      ready : at c.table.rows 0 ≡ Is_ready
      ready = ap (λ n. at c.table.rows n) (sym main) ∙ acting.actor.ready

      by_number : (q ≡ 0) ⊎ (q ≢ 0) → ⊥
      by_number (inl same) = (let no : false ≡ true = ap may_be_freed (sym ready) ∙ ap (λ n. may_be_freed (at c.table.rows n)) (sym same) ∙ may in cc)
      by_number (inr apart) =
          let quiet : is_quiet (at c.table.rows q) ≡ true = acting.alike.children (ap waits_at_coend ready) q (grind (arith, apart)) in
          (let no : true ≡ false = sym quiet ∙ runs in cc)

  nobody_waits : p ≡ 0 → (k : ℕ) (o : Option ℕ) → condition_waiter c.table.rows k ≡ o → not (is_some o) ≡ false → ⊥
  nobody_waits main k None found some = (let no : true ≡ false = some in cc)
  nobody_waits main k (Some q) found some =
      let waits = waiter_waits owners c.table.rows k q found in none_waits main q waits.runs waits.may

  held_of : (k : ℕ) → MayResume k → is_empty_condition c.table.rows k ≡ false → holder_in c.monitors (get_or owners k 0) ≡ Some p
  held_of k may some = by_number (either p 0)
    where
      by_number : (p ≡ 0) ⊎ (p ≢ 0) → holder_in c.monitors (get_or owners k 0) ≡ Some p
      by_number (inl main) = absurd (nobody_waits main k (condition_waiter c.table.rows k) refl some)
      by_number (inr child) = may child some

  module _ (k : ℕ) (may : MayResume k) where
    abbrev n : ℕ
    n = get_or owners k 0

    module _ (steps : (o : Objects) → IsChange facts c p o → IsStep facts m c p level acting (here + 1) (drop 1 ops) (going x.env r) o) where
      resumes_same : (o : Option ℕ) → condition_waiter c.table.rows k ≡ o
          → ComeToSame facts m c p x.line (silent (Ok (at_rest (machine.with_monitors (left_by m p 1) (resumed_with o (held_in w c.monitors) p n)))))
          (Ok (with_monitors (goes_on g c p x r) (resumed_with o (monitors_held c) p n)))
      resumes_same None found =
          comes_then facts m c p level acting (here + 1) (drop 1 ops) (going x.env r) (counted_so facts m c p level acting c.counts) x.line
          (steps (counted_so facts m c p level acting c.counts) (counts_change facts m c p level acting c.counts refl)) (rested w) m.semaphores
          (with_holders c.monitors) m.resources
          (rests facts m c p level acting) acting.alike.words.semaphores refl refl acting.alike.words.resources
      resumes_same (Some q) found =
          let held : holder_in c.monitors n ≡ Some p = held_of k may (ap (λ (o : Option ℕ). not (is_some o)) found) in
          let owned : (n == n) ≡ true = same_numbers n n refl in
          let o : Objects = passed_so facts m c p level acting n (Resumer n) held owned refl refl (Some q) in
          comes_then facts m c p level acting (here + 1) (drop 1 ops) (going x.env r) o x.line
          (steps o (passes_on facts m c p level acting n (Resumer n) held owned refl refl (Some q)
          (λ q' same. waiter_waits owners c.table.rows k q' (found ∙ same)))) _ m.semaphores
          (with_holders o.monitors) m.resources refl acting.alike.words.semaphores refl refl acting.alike.words.resources

  -- the machine's words for it
  abbrev resumes_with : ℕ → List ℕ → Held → MachineEffect
  resumes_with j os h = Ok (at_rest (machine.with_monitors (left_by m p 1) (resumed h p (get_or os j 0) j)))

  resumes_are : (k : ℕ) → object_at 0 p m ≡ k → machine.resumes p m ≡ resumes_with k owners (held_in w c.monitors)
  resumes_are k top =
      ap (λ (j : ℕ). resumes_with j m.monitors.owners (machine.monitors_held m)) top
      ∙ ap (λ (os : List ℕ). resumes_with k os (machine.monitors_held m)) same_owners
      ∙ ap (λ (y : Table). resumes_with k owners (held_in y m.monitors.holders)) acting.world
      ∙ ap (λ (hs : List (Option ℕ)). resumes_with k owners (held_in w hs)) same_monitors

  module _ (b : Block) (checked : IsChecked level.setting b x.env)
      (clear : Alone level.setting level.arms (ObjectAt level.setting b x here ops v condition RESUME r))
      (may : HoldsToResume facts c p v) where
    there : IsAt level.setting here RESUME x.line
    there = clear.1.4

    number : IsNumber facts m c p level acting own b x v clear.1.0 checked (length owners)
    number = condition_number facts m c p level acting own b x v clear.1.0 checked clear.1.3

    top_is : object_at 0 p m ≡ number.k
    top_is = ap (λ (os : List ℤ). number_of (operand os 0)) clear.1.2 ∙ number.word

    one_held : 1 ≤ length ops
    one_held = (let size = ap (λ (os : List ℤ). length os) clear.1.2 in grind (arith, size))

    known : object_at 0 p m < length m.monitors.owners
    known = subst (λ j. j < length m.monitors.owners) (sym top_is) (subst (λ (os : List ℕ). number.k < length os) (sym same_owners) number.few)

    may_resume : MayResume number.k
    may_resume = subst (λ j. MayResume j) number.spot may

    monitor_is : machine.monitor_of m (object_at 0 p m) ≡ get_or owners number.k 0
    monitor_is = ap (λ j. get_or m.monitors.owners j 0) top_is ∙ ap (λ (os : List ℕ). get_or os number.k 0) same_owners

    held_there : is_empty_condition m.world.rows (object_at 0 p m) ≡ false → holder_in m.monitors.holders (machine.monitor_of m (object_at 0 p m)) ≡ Some p
    held_there some =
        let there' : is_empty_condition c.table.rows number.k ≡ false =
        ap (λ j. is_empty_condition c.table.rows j) (sym top_is) ∙ ap (λ (y : Table). is_empty_condition y.rows (object_at 0 p m)) (sym acting.world) ∙ some in
        ap (λ (hs : List (Option ℕ)). holder_in hs (machine.monitor_of m (object_at 0 p m))) same_monitors ∙ ap (λ j. holder_in c.monitors j) monitor_is
        ∙ held_of number.k may_resume there'

    pub resume_kept : HasArrived facts m c p level (resumes x v r) → IsKept facts m c p choice (resumes x v r)
    resume_kept arrived =
        let goes : GoesOnAt level.setting b (here + 1) (drop 1 ops) [] (going x.env r) =
        leads_on level.setting b here (resumes x v r) ops level.arms arrived.room checked clear RESUME x.line there in
        let same = resumes_same number.k may_resume (λ o change. step_of facts m c p level acting own b RESUME x.line (drop 1 ops) (going x.env r) o
        checked.beside there refl clear.0.1 goes arrived.within arrived.arms change)
        (condition_waiter c.table.rows number.k) refl in
        record {
          instr = RESUME;
          is = code_there facts m c p level acting here RESUME x.line there;
          can_step = record {
            stack = stack_there facts m c p level acting;
            performed = record { held = one_held; room = grind arith; reach = tt };
            goes = λ outward. can_go facts m c p level acting RESUME x.line there refl one_held arrived.within;
          };
          no_move = tt;
          can_do = record { acting = acts_now facts m c p level acting RESUME x.line there; can = record { known = known; holds = held_there } };
          line = code_line facts m c p level acting here RESUME x.line there;
          choices = refl;
          same =
              subst (λ (e : MachineEffect). ComeToSame facts m c p x.line (silent e) (resumes_at g c p x v r)) (sym (resumes_are number.k top_is))
              (subst (λ (j : ℕ). ComeToSame facts m c p x.line (silent (resumes_with number.k owners (held_in w c.monitors)))
              (Ok (with_monitors (goes_on g c p x r) (resumed (monitors_held c) p (get_or owners j 0) j)))) (sym number.spot) same);
        }

pub holders_resume : (facts : Facts) (m : Machine) (c : Config) (p choice : ℕ) (level : LivingLevel) (x : Context) (v : Spot) (k : Remainder)
    → IsActing facts m c p level
    → HasArrived facts m c p level (resumes x v k) → HoldsToResume facts c p v → IsKept facts m c p choice (resumes x v k)
holders_resume facts m c p choice level x v k acting arrived may =
    let (b, checked, by) = arrived.arrived in resume_kept facts m c p choice level x v k by.0.0 acting b checked by may arrived
