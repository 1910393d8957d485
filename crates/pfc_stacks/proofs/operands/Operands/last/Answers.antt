-- The last operands are the first from the top.
use Rattle.std.proofs.Common.{arith}
use Rattle.std.proofs.lemmas.Grind.{common_steps}
use Rattle.pfc_stacks.proofs.Lists.{last-reverse}
use Rattle.pfc_stacks.proofs.operands.Operands.last.Goals as goal

pub returns : goal.returns
returns c = grind (arith, common_steps, last-reverse)
