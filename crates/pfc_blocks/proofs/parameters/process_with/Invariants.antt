-- The processes still to come decide.
use Rattle.std.proofs.Common.{◌≡◌, drop}
use Rattle.pfc_translation.specs.Operands as operands
use Rattle.pfc_blocks.proofs.parameters.process_with.Given as goal

abbrev pub invariant-loop-n : goal.invariant-loop-n
invariant-loop-n l = operands.process_with (drop l.n l.scopes.processes) l.i ≡ operands.process_with l.scopes.processes l.i
