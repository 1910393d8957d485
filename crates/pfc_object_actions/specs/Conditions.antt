-- Conditions of monitors.
use Rattle.std.specs.Prelude.{ℕ, Bool, if◌then◌else◌, [], ◌∷◌, drop, get_or, Ok}
use Rattle.pfc_stacks.specs.Activations.{has_mark}
use Rattle.pfc_stacks.specs.Effects.{passed}
use Rattle.pfc_stacks.specs.Stacks.{stack_of, operand, operands_of}
use Rattle.pfc_state.specs.declared.waits.Why.TheVariants.{Condition}
use Rattle.pfc_values.specs.Numbers.{truth}
use Rattle.pfc_world.specs.Holders.{Held, held_in, standing}
use Rattle.pfc_world.specs.Monitors.{delayed, resumed}
use Rattle.pfc_world.specs.Partners.{is_empty_condition}
use Rattle.pfc_world.specs.Transitions.{blocked}
use Rattle.pfc_machines.specs.declared.machine.Machine.{Machine}
use Rattle.pfc_machines.specs.Actions.{at_rest, Effect}
use Rattle.pfc_machines.specs.Quiet.{left_by}
use Rattle.pfc_object_actions.specs.Objects.{object_at}

-- the standings of a machine, and who holds its monitors
abbrev pub monitors_held : Machine → Held
monitors_held m = held_in m.world m.monitors.holders

abbrev pub with_monitors : Machine → Held → Machine
with_monitors m h = record m { world = h.table; monitors = record m.monitors { holders = h.holders } }

-- the monitor whose variables hold a condition
abbrev pub monitor_of : Machine → ℕ → ℕ
monitor_of m c = get_or m.monitors.owners c 0

-- The process has called a procedure of the monitor from outside, and is still in it. Main in the monitor's own initialising body is not: it does
-- not hold the monitor.
abbrev pub is_inside : ℕ → ℕ → Machine → Bool
is_inside n p m = has_mark n (stack_of m.stacks p)

-- `DELAY`: the process waits on the condition below the top with the rank on top, and hands the monitor over. In the monitor's own initialising
-- body the holder stays.
abbrev pub delays : ℕ → Machine → Effect
delays p m =
    let c = object_at 1 p m in
    let n = monitor_of m c in
    let rank = operand (operands_of m.stacks p) 0 in
    let h = monitors_held m in
    let waiting = if is_inside n p m then delayed h p n c rank else standing h (blocked h.table p (Condition c rank) []) in
    Ok (at_rest (with_monitors (left_by m p 2) waiting))

-- `RESUME`: without a waiter nothing more happens; else the waiter of least rank, and at that rank of least ticket, has the monitor and is ready,
-- and the process waits as a resumer.
abbrev pub resumes : ℕ → Machine → Effect
resumes p m = let c = object_at 0 p m in Ok (at_rest (with_monitors (left_by m p 1) (resumed (monitors_held m) p (monitor_of m c) c)))

-- `EMPTY`: nobody waits on the condition, with any rank.
abbrev pub asks_empty : ℕ → Machine → Effect
asks_empty p m =
    let answer = truth (is_empty_condition m.world.rows (object_at 0 p m)) in
    Ok (at_rest (record m { stacks = passed m.stacks p (answer ∷ drop 1 (operands_of m.stacks p)) }))
