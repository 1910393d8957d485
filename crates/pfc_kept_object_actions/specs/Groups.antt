-- Actions on objects and on time, by their kinds.
use Rattle.std.specs.Prelude.{ℕ, ◌≡◌, ◌≢◌, false, Some}
use Rattle.pfc_world.specs.Holders.{holder_in}
use Rattle.pfc_world.specs.Partners.{is_empty_condition}
use Rattle.pfc_semantics.specs.Displays.{Spot}
use Rattle.pfc_semantics.specs.Configurations.{Config, number_for}
use Rattle.pfc_semantics.specs.Monitors.{monitor_of}
use Rattle.pfc_semantics.specs.Remainders.{Action, asks_empty, joins, initials, waits, signals, delays, sleeps}
use Rattle.pfc_representation.specs.Levels.{Facts, program_in, LivingLevel}

-- `initial`, `wait` and `signal`
abbrev pub IsOfSemaphore : LivingLevel → Action → Type 0
IsOfSemaphore level (initials x v n k) = Unit {0}
IsOfSemaphore level (waits x v k) = Unit {0}
IsOfSemaphore level (signals x v k) = Unit {0}
IsOfSemaphore level n = ⊥

-- `sleep`, and the wait at `coend`
abbrev pub IsOfTime : LivingLevel → Action → Type 0
IsOfTime level (sleeps x n k) = Unit {0}
IsOfTime level (joins x k) = Unit {0}
IsOfTime level n = ⊥

-- `delay` and `empty`, of conditions
abbrev pub IsOfCondition : LivingLevel → Action → Type 0
IsOfCondition level (asks_empty x v u) = Unit {0}
IsOfCondition level (delays x v n k) = Unit {0}
IsOfCondition level n = ⊥

-- Where somebody waits on the condition that a spot names, a child that acts holds its monitor. While main acts nobody waits.
abbrev pub HoldsToResume : Facts → Config → ℕ → Spot → Type 0
HoldsToResume facts c p v =
    let g = program_in facts in
    p ≢ 0 → is_empty_condition c.table.rows (number_for g c p v) ≡ false → holder_in c.monitors (monitor_of g (number_for g c p v)) ≡ Some p
