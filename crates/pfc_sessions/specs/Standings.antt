-- How processes stand, as it is told of them.
use Rattle.std.specs.Prelude.{ℕ, ◌+◌, List, [], ◌∷◌}
use Rattle.pfc_state.specs.Stands.{Stand, state_of}
use Rattle.pfc_state.specs.declared.standings.Standing.{Standing}
use Rattle.pfc_machines.specs.declared.descriptors.Descriptor.{Descriptor}
use Rattle.pfc_machines.specs.declared.machine.Machine.{Machine}
use Rattle.pfc_machines.specs.Descriptors.{descriptor_of}

-- how the processes from number p on stand, each at its line
abbrev pub standings_from : ℕ → List Stand → List Descriptor → List Standing
standings_from p [] descriptors = []
standings_from p (stand ∷ rows) descriptors =
    record { process = p; state = state_of stand; line = (descriptor_of descriptors p).line } ∷ standings_from (p + 1) rows descriptors

abbrev pub standings : Machine → List Standing
standings m = standings_from 0 m.world.rows m.descriptors
