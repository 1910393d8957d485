use Rattle.std.proofs.Common.{◌≡◌, ◌++◌, drop}
use Rattle.pfc_machines.specs.Descriptors.{declared_descriptors}
use Rattle.pfc_machines.proofs.descriptors.declared_descriptors.Given as goal

-- the processes so far, and those that are left
abbrev pub invariant-loop-process : goal.invariant-loop-process
invariant-loop-process l = l.items.items ++ declared_descriptors l.blocks (drop l.process-index l.processes) ≡ declared_descriptors l.blocks l.processes
