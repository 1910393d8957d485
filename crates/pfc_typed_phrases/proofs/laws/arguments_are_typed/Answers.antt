use Rattle.pfc_typed_phrases.proofs.Anywhere.{arguments_wanted, arguments_typed}
use Rattle.pfc_typed_phrases.proofs.laws.arguments_are_typed.Goals as goal

pub returns-clause-wanted : goal.returns-clause-wanted
returns-clause-wanted c = λ s known. arguments_wanted s known

pub returns-clause-headings : goal.returns-clause-headings
returns-clause-headings c = λ s known. arguments_typed s known
