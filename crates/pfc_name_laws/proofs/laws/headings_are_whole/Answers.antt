use Rattle.pfc_types.specs.rules.Whole.{finished}
use Rattle.pfc_name_laws.proofs.Headings.{all_headed}
use Rattle.pfc_name_laws.proofs.Parts.{finished_reached}
use Rattle.pfc_name_laws.proofs.laws.headings_are_whole.Goals as goal

pub returns-clause-so_far : goal.returns-clause-so_far
returns-clause-so_far c = λ s r. all_headed s r

pub returns-clause-finished : goal.returns-clause-finished
returns-clause-finished c = λ t. all_headed (finished t) (finished_reached t)
