-- The last operands are the first from the top.
use Rattle.std.proofs.Common.{arith}
use Rattle.std.proofs.lemmas.Grind.{common_steps}
use Rattle.pfc_stacks.proofs.Lists.{drop-reverse}
use Rattle.pfc_stacks.proofs.operands.Operands.cut.Goals as goal

pub returns : goal.returns
returns c = grind (arith, common_steps, drop-reverse)
