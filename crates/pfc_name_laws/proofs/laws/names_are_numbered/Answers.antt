use Rattle.pfc_types.specs.rules.Whole.{finished}
use Rattle.pfc_name_laws.proofs.Numbers.{numbered}
use Rattle.pfc_name_laws.proofs.Parts.{finished_reached}
use Rattle.pfc_name_laws.proofs.laws.names_are_numbered.Goals as goal

pub returns-clause-so_far : goal.returns-clause-so_far
returns-clause-so_far c = λ s r. numbered s r

pub returns-clause-finished : goal.returns-clause-finished
returns-clause-finished c = λ t. numbered (finished t) (finished_reached t)
