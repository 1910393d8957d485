-- Settling on the machine.
use Rattle.pfc_world.specs.Terminating.{wholly_settled}
use Rattle.pfc_machines.specs.declared.machine.Machine.{Machine}

-- Only standings and the clock change. What a process that finishes has made and begun is forgotten where it is created again.
abbrev pub machine_settled : Machine → Machine
machine_settled m = record m { world = wholly_settled m.world }
