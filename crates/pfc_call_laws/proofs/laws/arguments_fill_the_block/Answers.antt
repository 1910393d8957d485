use Rattle.pfc_call_laws.proofs.Passing.{filled, left, lent}
use Rattle.pfc_call_laws.proofs.laws.arguments_fill_the_block.Goals as goal

pub returns : goal.returns
returns c = λ g homes entries config stacks b w hand p x callee code formals given ops below hold first display known takes held. (
  filled g homes entries config stacks b w hand p x hold display known first callee code formals takes given ops below held,
  lent g homes entries config stacks b w hand p x hold display known first callee code formals takes given ops below held,
  left g homes entries config stacks b w hand p x hold display known first callee code formals takes given ops below held,
)
