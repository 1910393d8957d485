use Rattle.pfc_typed_phrases.proofs.Anywhere.{variables_typed, selectors_are}
use Rattle.pfc_typed_phrases.proofs.laws.variables_are_typed.Goals as goal

pub returns-clause-variables : goal.returns-clause-variables
returns-clause-variables c = λ s known. variables_typed s known

pub returns-clause-selectors : goal.returns-clause-selectors
returns-clause-selectors c = λ s known. selectors_are s known
