-- The deepest operands are the last from the top.
use Rattle.std.proofs.Common.{arith}
use Rattle.pfc_stacks.proofs.Lists.{keep-reverse}
use Rattle.pfc_stacks.proofs.operands.Operands.keep.Goals as goal

pub returns : goal.returns
returns c = grind (arith, keep-reverse)
