use Rattle.pfc_typed_statements.proofs.Anywhere.{calls_typed}
use Rattle.pfc_typed_statements.proofs.laws.calls_are_typed.Goals as goal

pub returns : goal.returns
returns c = λ s known callable. calls_typed s known callable
