-- How a run ends on the machine, and what is told of it then.
use Rattle.std.specs.Prelude.{ℕ, ◌+◌, if◌then◌else◌, List, [], ◌∷◌, Option, Some, None}
use Rattle.pfc_state.specs.Stands.{Stand, state_of}
use Rattle.pfc_state.specs.declared.endings.Ending.{Ending}
use Rattle.pfc_state.specs.declared.endings.Ending.TheVariants.{Finished, Deadlock}
use Rattle.pfc_state.specs.declared.standings.Standing.{Standing}
use Rattle.pfc_world.specs.Tables.{at, some_ready}
use Rattle.pfc_semantics.specs.Runs.{is_done}
use Rattle.pfc_machines.specs.declared.descriptors.Descriptor.{Descriptor}
use Rattle.pfc_machines.specs.declared.machine.Machine.{Machine}

-- The first of these that holds of a machine that is settled and whose last action was no fault: main has finished; no process is ready.
abbrev pub machine_ending : Machine → Option Ending
machine_ending m = if is_done (at m.world.rows 0) then Some Finished else if some_ready m.world.rows then None else Some Deadlock

-- the standing of each process with its line, in the order of their numbers
abbrev pub machine_standings_from : ℕ → List Stand → List Descriptor → List Standing
machine_standings_from n (stand ∷ rows) (d ∷ descriptors) =
    record { process = n; state = state_of stand; line = d.line } ∷ machine_standings_from (n + 1) rows descriptors
machine_standings_from n rows descriptors = []

abbrev pub machine_standings : Machine → List Standing
machine_standings m = machine_standings_from 0 m.world.rows m.descriptors
