-- Those of the blocks so far.
use Rattle.std.proofs.Common.{◌≡◌, take}
use Rattle.pfc_blocks.specs.Making.{params_in}
use Rattle.pfc_blocks.proofs.parameters.all_params.Given as goal

abbrev pub invariant-loop-b : goal.invariant-loop-b
invariant-loop-b l = l.all.items ≡ params_in l.program (take l.b-index l.program.blocks.items)
