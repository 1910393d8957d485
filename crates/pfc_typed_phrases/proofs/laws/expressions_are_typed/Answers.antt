use Rattle.pfc_typed_phrases.proofs.Anywhere.{expressions_typed}
use Rattle.pfc_typed_phrases.proofs.laws.expressions_are_typed.Goals as goal

pub returns : goal.returns
returns c = λ s known. expressions_typed s known
