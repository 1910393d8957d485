-- Monitors and their conditions.
use Rattle.std.specs.Prelude.{ℕ, ℤ, ◌==◌, Bool, false, if◌then◌else◌, List, [], get_or, Ok}
use Rattle.std.specs.List.{list_any}
use Rattle.pfc_state.specs.declared.waits.Why.TheVariants.{Condition}
use Rattle.pfc_world.specs.Transitions.{blocked}
use Rattle.pfc_world.specs.Holders.{standing}
use Rattle.pfc_world.specs.Partners.{is_empty_condition}
use Rattle.pfc_world.specs.Monitors.{entered, handed_over, delayed, resumed}
use Rattle.pfc_values.specs.Numbers.{truth}
use Rattle.pfc_semantics.specs.Values.{ordinal}
use Rattle.pfc_semantics.specs.Displays.{Spot}
use Rattle.pfc_semantics.specs.Programs.{Block, Program}
use Rattle.pfc_semantics.specs.Remainders.{Context, Argument, Remainder, AwaitsValue}
use Rattle.pfc_semantics.specs.Configurations.{Mark, Caller, Config, Effect, plain, of_monitor, of_resource, activity_of, goes_on, holds, number_for}
use Rattle.pfc_semantics.specs.Configurations.{monitors_held, with_monitors, body_of}
use Rattle.pfc_semantics.specs.Calls.{cells_above, unless_full, activated}

-- A call from outside makes the activation and asks to enter, in one action: a free monitor is the caller's, else it waits.
abbrev pub enters_monitor : Program → Config → ℕ → Block → ℕ → Caller → List Argument → Effect
enters_monitor g c p b m caller args =
    let inside = activated g c p b (of_monitor m) caller args (body_of b) in
    unless_full p (cells_above (activity_of g c p).activations b) (with_monitors inside (entered (monitors_held inside) p m))

-- The return from such a call hands the monitor over.
abbrev pub leaves_monitor : Config → ℕ → Config
leaves_monitor c m = with_monitors c (handed_over (monitors_held c) m)

-- ## Conditions

-- the monitor whose variables hold a condition
abbrev pub monitor_of : Program → ℕ → ℕ
monitor_of g n = get_or g.objects.conditions n 0

abbrev pub is_in : ℕ → Mark → Bool
is_in m plain = false
is_in m (of_monitor n) = n == m
is_in m (of_resource n) = false

-- The process has called a procedure of the monitor from outside, and is still in it. Main in the monitor's own initialising body is not: it does
-- not hold the monitor.
abbrev pub is_inside : Program → Config → ℕ → ℕ → Bool
is_inside g c p m = list_any (λ a. is_in m a.mark) (activity_of g c p).activations

-- `delay(c, rank)`: the process waits on the condition with the rank, and hands the monitor over. In the monitor's own initialising body the
-- holder stays.
abbrev pub delays_at : Program → Config → ℕ → Context → Spot → ℤ → Remainder → Effect
delays_at g c p x s rank k =
    let n = number_for g c p s in
    let m = monitor_of g n in
    let h = monitors_held c in
    Ok (with_monitors (goes_on g c p x k) (if is_inside g c p m then delayed h p m n rank else standing h (blocked h.table p (Condition n rank) [])))

-- `resume(c)`: without a waiter nothing more happens; else the waiter of least rank, and at that rank of least ticket, has the monitor and is ready,
-- and the process waits as a resumer.
abbrev pub resumes_at : Program → Config → ℕ → Context → Spot → Remainder → Effect
resumes_at g c p x s k =
    let n = number_for g c p s in Ok (with_monitors (goes_on g c p x k) (resumed (monitors_held c) p (monitor_of g n) n))

-- `empty(c)`: nobody waits on the condition, with any rank
abbrev pub empties_at : Program → Config → ℕ → Context → Spot → AwaitsValue → Effect
empties_at g c p x s u = Ok (holds g c p x (ordinal (truth (is_empty_condition c.table.rows (number_for g c p s)))) u)
