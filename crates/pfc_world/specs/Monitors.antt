-- Monitors and their conditions. An action on one is a function of the table of processes and the holders.
use Rattle.std.specs.Prelude.{ℕ, ℤ, Option, None, Some, []}
use Rattle.pfc_state.specs.declared.waits.Why.TheVariants.{Enter, Condition, Resumer}
use Rattle.pfc_state.specs.Stands.{Is_ready}
use Rattle.pfc_world.specs.Holders.{Held, holder_in, standing, holding, given_to}
use Rattle.pfc_world.specs.Partners.{next_holder, condition_waiter}
use Rattle.pfc_world.specs.Transitions.{placed, blocked}

abbrev pub entered_where : Option ℕ → Held → ℕ → ℕ → Held
entered_where None h p m = holding h m (Some p)
entered_where (Some q) h p m = standing h (blocked h.table p (Enter m) [])

-- A call from outside, by the process that acts: it has a free monitor, and else waits as an entrant.
abbrev pub entered : Held → ℕ → ℕ → Held
entered h p m = entered_where (holder_in h.holders m) h p m

-- To hand over a monitor: the latest resumer has it and is ready; without one, the first entrant;
-- without one, the monitor is free. The return from a call that came from outside does this.
abbrev pub handed_over : Held → ℕ → Held
handed_over h m = given_to (next_holder h.table.rows m) h m

-- `delay(c, rank)` by the holder: it hands the monitor over, and waits on the condition with this rank.
-- (In a monitor's initialising body main holds nothing, so there it only waits.)
abbrev pub delayed : Held → ℕ → ℕ → ℕ → ℤ → Held
delayed h p m c rank = standing (handed_over h m) (blocked (handed_over h m).table p (Condition c rank) [])

abbrev pub resumed_with : Option ℕ → Held → ℕ → ℕ → Held
resumed_with None h p m = h
resumed_with (Some q) h p m = holding (standing h (blocked (placed h.table q Is_ready) p (Resumer m) [])) m (Some q)

-- `resume(c)` by the holder: without a waiter it does nothing; else the waiter of least rank, and at that
-- rank of least ticket, has the monitor and is ready, and the process that acts waits as a resumer.
abbrev pub resumed : Held → ℕ → ℕ → ℕ → Held
resumed h p m c = resumed_with (condition_waiter h.table.rows c) h p m
