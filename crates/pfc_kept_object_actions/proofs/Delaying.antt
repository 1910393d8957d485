-- `delay`, `resume` and `empty`.
use Rattle.std.proofs.Common.{◌≡◌, ℕ, ◌+◌, ◌<◌, ◌≤◌, ◌==◌, ℤ, Bool, true, false, if◌then◌else◌, List, [], ◌∷◌, length, get_or, drop, Option}
use Rattle.std.proofs.Common.{Some, None, Ok, refl, sym, ap, ◌∙◌, subst, arith}
use Rattle.std.proofs.lemmas.List.{append-nil}
use Rattle.pfc_code.specs.declared.instructions.Instr.TheVariants.{DELAY, EMPTY}
use Rattle.pfc_monitor.specs.declared.monitors.Monitors.{Monitors}
use Rattle.pfc_types.specs.Types.{condition}
use Rattle.pfc_values.specs.declared.simple.Simple.TheVariants.{Integer}
use Rattle.pfc_values.specs.Numbers.{is_of, truth}
use Rattle.pfc_state.specs.declared.waits.Why.TheVariants.{Condition}
use Rattle.pfc_world.specs.Holders.{Held, held_in, holder_in, standing, given_to}
use Rattle.pfc_world.specs.Monitors.{delayed}
use Rattle.pfc_world.specs.Partners.{next_holder, is_empty_condition}
use Rattle.pfc_world.specs.Tables.{Table}
use Rattle.pfc_world.specs.Transitions.{blocked}
use Rattle.pfc_semantics.specs.Values.{ordinal}
use Rattle.pfc_semantics.specs.Displays.{Spot}
use Rattle.pfc_semantics.specs.Programs.{Block, Program}
use Rattle.pfc_semantics.specs.Remainders.{Context, Remainder, AwaitsValue, asks_empty, delays}
use Rattle.pfc_semantics.specs.Rewriting.{going, holding as holding_value}
use Rattle.pfc_semantics.specs.Configurations.{Config, goes_on, holds, monitors_held, with_monitors}
use Rattle.pfc_semantics.specs.Monitors.{is_inside, delays_at, empties_at}
use Rattle.pfc_stacks.specs.Activations.{has_mark}
use Rattle.pfc_stacks.specs.Effects.{moved, passed}
use Rattle.pfc_stacks.specs.Refs.{number_of}
use Rattle.pfc_stacks.specs.Stacks.{stack_of, operand, operands_of}
use Rattle.pfc_machines.specs.declared.machine.Machine.{Machine}
use Rattle.pfc_machines.specs.Actions.{at_rest, Effect as MachineEffect}
use Rattle.pfc_machines.specs.Quiet.{left_by}
use Rattle.pfc_object_actions.specs.Objects.{object_at}
use Rattle.pfc_object_actions.specs.Conditions as machine
use Rattle.pfc_machine_acts.specs.Performing.{silent}
use Rattle.pfc_standing_code.specs.Settings.{of_own, site_of, IsAt}
use Rattle.pfc_standing_code.specs.Words.{IsObject, IsChecked}
use Rattle.pfc_standing_code.specs.Performs.{Alone}
use Rattle.pfc_standing_code.specs.Following.{ObjectAt}
use Rattle.pfc_following_source.specs.Behind.{GoesOnAt}
use Rattle.pfc_following_source.proofs.Behind.{leads_on}
use Rattle.pfc_representation.specs.Levels.{Facts, program_in, LivingLevel}
use Rattle.pfc_representation.specs.Machines.{goes_on as goes_on_alike}
use Rattle.pfc_representation.specs.Acting.{IsActing, HasArrived}
use Rattle.pfc_representation.specs.Actions.{ComeToSame, IsKept, AreKept}
use Rattle.pfc_kept_own_actions.proofs.Alone.{can_go, moved_step, represents_alone}
use Rattle.pfc_kept_own_actions.proofs.Arrived.{stack_there, code_there, code_line, acts_now, next_within}
use Rattle.pfc_kept_object_actions.specs.Groups.{IsOfCondition}
use Rattle.pfc_kept_object_actions.proofs.Step.{Objects, IsChange, IsStep}
use Rattle.pfc_kept_object_actions.proofs.Numbers.{IsNumber, condition_number}
use Rattle.pfc_kept_object_actions.proofs.Marks.{inside_same}
use Rattle.pfc_kept_object_actions.proofs.Popped.{step_of, comes_then, world}
use Rattle.pfc_kept_object_actions.proofs.Blocking.{blocked_so, blocks}
use Rattle.pfc_kept_object_actions.proofs.Handing.{inside_holds, passed_so, passes_on, next_waits}
use Rattle.pfc_kept_object_actions.proofs.Tests.{same_numbers}

module _ (facts : Facts) (m : Machine) (c : Config) (p choice : ℕ) (level : LivingLevel) (x : Context) (v : Spot) (own : level.setting.trial ≡ of_own)
    (acting : IsActing facts m c p level) where
  abbrev here : ℕ
  here = (stack_of m.stacks p).at

  abbrev ops : List ℤ
  ops = operands_of m.stacks p

  abbrev g : Program
  g = program_in facts

  abbrev owners : List ℕ
  owners = g.objects.conditions

  abbrev w : Table
  w = world facts m c p level acting

  abbrev same_monitors : m.monitors.holders ≡ c.monitors
  same_monitors = acting.alike.words.monitors

  abbrev same_owners : m.monitors.owners ≡ owners
  same_owners = acting.alike.words.owners

  -- the same with other holders
  abbrev with_holders : List (Option ℕ) → Monitors
  with_holders holders = record m.monitors { holders = holders }

  -- ## `delay`

  module _ (r : Remainder) (k : ℕ) (rank : ℤ) where
    -- its monitor
    abbrev n : ℕ
    n = get_or owners k 0

    abbrev waiting_by : Bool → Held → Held
    waiting_by inside h = if inside then delayed h p n k rank else standing h (blocked h.table p (Condition k rank) [])

    module _ (steps : (o : Objects) → IsChange facts c p o → IsStep facts m c p level acting (here + 1) (drop 2 ops) (going x.env r) o) where
      hands_over : (o : Option ℕ) → next_holder c.table.rows n ≡ o → holder_in c.monitors n ≡ Some p
          → (let handed = λ (h : Held). given_to o h n in
          ComeToSame facts m c p x.line
          (silent (Ok (at_rest (machine.with_monitors (left_by m p 2)
          (standing (handed (held_in w c.monitors)) (blocked (handed (held_in w c.monitors)).table p (Condition k rank) []))))))
          (Ok (with_monitors (goes_on g c p x r) (standing (handed (monitors_held c)) (blocked (handed (monitors_held c)).table p (Condition k rank) [])))))
      hands_over o found held = by_next o found
        where
          owned : (n == n) ≡ true
          owned = same_numbers n n refl

          change : (next : Option ℕ) → next_holder c.table.rows n ≡ next
              → IsChange facts c p (passed_so facts m c p level acting n (Condition k rank) held owned refl refl next)
          change next is =
              passes_on facts m c p level acting n (Condition k rank) held owned refl refl next
              (λ q same. next_waits owners c.table.rows n q (is ∙ same))

          by_next : (next : Option ℕ) → next_holder c.table.rows n ≡ next
              → (let handed = λ (h : Held). given_to next h n in
              ComeToSame facts m c p x.line
              (silent (Ok (at_rest (machine.with_monitors (left_by m p 2)
              (standing (handed (held_in w c.monitors)) (blocked (handed (held_in w c.monitors)).table p (Condition k rank) []))))))
              (Ok (with_monitors (goes_on g c p x r) (standing (handed (monitors_held c)) (blocked (handed (monitors_held c)).table p (Condition k rank) [])))))
          by_next None is =
              let o : Objects = passed_so facts m c p level acting n (Condition k rank) held owned refl refl None in
              comes_then facts m c p level acting (here + 1) (drop 2 ops) (going x.env r) o x.line (steps o (change None is)) _ m.semaphores
              (with_holders o.monitors) m.resources refl
              acting.alike.words.semaphores refl refl acting.alike.words.resources
          by_next (Some q) is =
              let o : Objects = passed_so facts m c p level acting n (Condition k rank) held owned refl refl (Some q) in
              comes_then facts m c p level acting (here + 1) (drop 2 ops) (going x.env r) o x.line (steps o (change (Some q) is)) _ m.semaphores
              (with_holders o.monitors) m.resources refl
              acting.alike.words.semaphores refl refl acting.alike.words.resources

      delays_same : (inside : Bool) → is_inside g c p n ≡ inside
          → ComeToSame facts m c p x.line (silent (Ok (at_rest (machine.with_monitors (left_by m p 2) (waiting_by inside (held_in w c.monitors))))))
          (Ok (with_monitors (goes_on g c p x r) (waiting_by inside (monitors_held c))))
      delays_same true is = hands_over (next_holder c.table.rows n) refl (inside_holds facts m c p level acting n is)
      delays_same false is =
          let o : Objects = blocked_so facts m c p level acting (Condition k rank) in
          comes_then facts m c p level acting (here + 1) (drop 2 ops) (going x.env r) o x.line
          (steps o (blocks facts m c p level acting (Condition k rank) refl (λ t is'. absurd (let no : None ≡ Some t = is' in cc)))) _ m.semaphores
          (with_holders c.monitors) m.resources refl
          acting.alike.words.semaphores refl refl acting.alike.words.resources

    -- the machine's words for it
    abbrev delays_with : ℕ → ℤ → List ℕ → Held → MachineEffect
    delays_with j y os h =
        let i = get_or os j 0 in
        Ok (at_rest (machine.with_monitors (left_by m p 2)
        (if machine.is_inside i p m then delayed h p i j y else standing h (blocked h.table p (Condition j y) []))))

    delays_are : object_at 1 p m ≡ k → operand ops 0 ≡ rank
        → machine.delays p m ≡ Ok (at_rest (machine.with_monitors (left_by m p 2) (waiting_by (is_inside g c p n) (held_in w c.monitors))))
    delays_are under top =
        ap (λ (j : ℕ). delays_with j (operand ops 0) m.monitors.owners (machine.monitors_held m)) under
        ∙ ap (λ (y : ℤ). delays_with k y m.monitors.owners (machine.monitors_held m)) top
        ∙ ap (λ (os : List ℕ). delays_with k rank os (machine.monitors_held m)) same_owners
        ∙ ap (λ (y : Table). delays_with k rank owners (held_in y m.monitors.holders)) acting.world
        ∙ ap (λ (hs : List (Option ℕ)). delays_with k rank owners (held_in w hs)) same_monitors
        ∙ ap (λ (b : Bool). Ok (at_rest (machine.with_monitors (left_by m p 2) (waiting_by b (held_in w c.monitors))))) (inside_same facts m c p level acting n)

  module _ (r : Remainder) (rank : ℤ) (b : Block) (checked : IsChecked level.setting b x.env)
      (clear : Alone level.setting level.arms ((rest : List ℤ) × (ops ≡ rank ∷ rest) × ObjectAt level.setting b x here rest v condition DELAY r)) where
    delay_there : IsAt level.setting here DELAY x.line
    delay_there = clear.1.2.4

    number : IsNumber facts m c p level acting own b x v clear.1.2.0 checked (length owners)
    number = condition_number facts m c p level acting own b x v clear.1.2.0 checked clear.1.2.3

    two_on_top : ops ≡ rank ∷ clear.1.2.0 ∷ clear.1.2.1
    two_on_top = clear.1.1 ∙ ap (λ (os : List ℤ). rank ∷ os) clear.1.2.2

    under_is : object_at 1 p m ≡ number.k
    under_is = ap (λ (os : List ℤ). number_of (operand os 1)) two_on_top ∙ number.word

    top_is : operand ops 0 ≡ rank
    top_is = ap (λ (os : List ℤ). operand os 0) two_on_top

    two_held : 2 ≤ length ops
    two_held = (let size = ap (λ (os : List ℤ). length os) two_on_top in grind (arith, size))

    known_under : object_at 1 p m < length m.monitors.owners
    known_under = subst (λ j. j < length m.monitors.owners) (sym under_is) (subst (λ (os : List ℕ). number.k < length os) (sym same_owners) number.few)

    monitor_is : machine.monitor_of m (object_at 1 p m) ≡ get_or owners number.k 0
    monitor_is = ap (λ j. get_or m.monitors.owners j 0) under_is ∙ ap (λ (os : List ℕ). get_or os number.k 0) same_owners

    held_there : machine.is_inside (machine.monitor_of m (object_at 1 p m)) p m ≡ true
        → holder_in m.monitors.holders (machine.monitor_of m (object_at 1 p m)) ≡ Some p
    held_there inside =
        let i : ℕ = get_or owners number.k 0 in
        let there : is_inside g c p i ≡ true = sym (inside_same facts m c p level acting i) ∙ ap (λ j. has_mark j (stack_of m.stacks p)) (sym monitor_is)
        ∙ inside in
        ap (λ (hs : List (Option ℕ)). holder_in hs (machine.monitor_of m (object_at 1 p m))) same_monitors ∙ ap (λ j. holder_in c.monitors j) monitor_is
        ∙ inside_holds facts m c p level acting i there

    pub delay_kept : HasArrived facts m c p level (delays x v rank r) → IsKept facts m c p choice (delays x v rank r)
    delay_kept arrived =
        let goes : GoesOnAt level.setting b (here + 1) (drop 2 ops) [] (going x.env r) =
        leads_on level.setting b here (delays x v rank r) ops level.arms arrived.room checked clear DELAY x.line delay_there in
        let same = delays_same r number.k rank (λ o change. step_of facts m c p level acting own b DELAY x.line (drop 2 ops) (going x.env r) o checked.beside
        delay_there refl clear.0.1 goes arrived.within arrived.arms change)
        (is_inside g c p (get_or owners number.k 0)) refl in
        record {
          instr = DELAY;
          is = code_there facts m c p level acting here DELAY x.line delay_there;
          can_step = record {
            stack = stack_there facts m c p level acting;
            performed = record { held = two_held; room = grind arith; reach = tt };
            goes = λ outward. can_go facts m c p level acting DELAY x.line delay_there refl two_held arrived.within;
          };
          no_move = tt;
          can_do = record {
            acting = acts_now facts m c p level acting DELAY x.line delay_there;
            can = record { integer = ap (λ (i : ℤ). is_of Integer i) top_is ∙ arrived.number; known = known_under; holds = held_there };
          };
          line = code_line facts m c p level acting here DELAY x.line delay_there;
          choices = refl;
          same =
              subst (λ (e : MachineEffect). ComeToSame facts m c p x.line (silent e) (delays_at g c p x v rank r))
              (sym (delays_are r number.k rank under_is top_is))
              (subst (λ (j : ℕ). ComeToSame facts m c p x.line (silent
              (Ok (at_rest (machine.with_monitors (left_by m p 2)
              (waiting_by r number.k rank (is_inside g c p (get_or owners number.k 0)) (held_in w c.monitors))))))
              (Ok (with_monitors (goes_on g c p x r) (waiting_by r j rank (is_inside g c p (get_or owners j 0)) (monitors_held c))))) (sym number.spot) same);
        }

  -- ## `empty`

  module _ (u : AwaitsValue) (b : Block) (checked : IsChecked level.setting b x.env) (o : ℤ) (below : List ℤ) (top : ops ≡ o ∷ below)
      (object : IsObject level.setting (site_of level.setting b x) v (Some condition) o) (there : IsAt level.setting here EMPTY x.line) where
    asked : IsNumber facts m c p level acting own b x v o checked (length owners)
    asked = condition_number facts m c p level acting own b x v o checked object

    asked_is : object_at 0 p m ≡ asked.k
    asked_is = ap (λ (os : List ℤ). number_of (operand os 0)) top ∙ asked.word

    one_held : 1 ≤ length ops
    one_held = (let size = ap (λ (os : List ℤ). length os) top in grind (arith, size))

    abbrev answer_at : ℕ → ℤ
    answer_at j = truth (is_empty_condition c.table.rows j)

    abbrev pushed : ℤ → MachineEffect
    pushed y = Ok (at_rest (record m { stacks = passed m.stacks p (y ∷ drop 1 ops) }))

    empty_is : machine.asks_empty p m ≡ pushed (answer_at asked.k)
    empty_is =
        ap (λ (y : Table). pushed (truth (is_empty_condition y.rows (object_at 0 p m)))) acting.world
        ∙ ap (λ (j : ℕ). pushed (answer_at j)) asked_is

    pub empty_kept : HasArrived facts m c p level (asks_empty x v u)
        → ((y : ℤ) → GoesOnAt level.setting b (here + 1) (y ∷ drop 1 ops) level.arms (holding_value x (ordinal y) u))
        → IsKept facts m c p choice (asks_empty x v u)
    empty_kept arrived goes =
        let y : ℤ = answer_at asked.k in
        let step =
        moved_step facts m c p level acting own b (here + 1) (y ∷ drop 1 ops) (holding_value x (ordinal y) u) checked.beside arrived.arms (goes y)
        (next_within facts m c p level acting own EMPTY x.line there refl arrived.within) in
        let same : ComeToSame facts m c p x.line (silent (pushed y)) (Ok (holds g c p x (ordinal y) u)) = (
          goes_on_alike (represents_alone facts m c p level acting _ _ (moved m.stacks p (here + 1) (y ∷ drop 1 ops)) c.store (holding_value x (ordinal y) u)
              x.line step),
          sym (append-nil c.output),
        ) in
        record {
          instr = EMPTY;
          is = code_there facts m c p level acting here EMPTY x.line there;
          can_step = record {
            stack = stack_there facts m c p level acting;
            performed = record { held = one_held; room = grind arith; reach = tt };
            goes = λ outward. can_go facts m c p level acting EMPTY x.line there refl one_held arrived.within;
          };
          no_move = tt;
          can_do = record { acting = acts_now facts m c p level acting EMPTY x.line there; can = one_held };
          line = code_line facts m c p level acting here EMPTY x.line there;
          choices = refl;
          same =
              subst (λ (e : MachineEffect). ComeToSame facts m c p x.line (silent e) (empties_at g c p x v u)) (sym empty_is)
              (subst (λ (j : ℕ). ComeToSame facts m c p x.line (silent (pushed y)) (Ok (holds g c p x (ordinal (answer_at j)) u))) (sym asked.spot) same);
        }

pub conditions_kept : AreKept IsOfCondition
conditions_kept facts m c p choice level (delays x v n k) is acting arrived chosen =
    let (b, checked, by) = arrived.arrived in delay_kept facts m c p choice level x v by.0.0 acting k n b checked by arrived
conditions_kept facts m c p choice level (asks_empty x v u) is acting arrived chosen =
    let (b, checked, by) = arrived.arrived in
    empty_kept facts m c p choice level x v by.0 acting u b checked by.1.0 by.1.1 by.1.2 by.1.3 by.1.4 arrived
    (leads_on level.setting b (stack_of m.stacks p).at (asks_empty x v u) (operands_of m.stacks p) level.arms arrived.room checked by EMPTY x.line by.1.4)
conditions_kept facts m c p choice level n is acting arrived chosen = absurd is
