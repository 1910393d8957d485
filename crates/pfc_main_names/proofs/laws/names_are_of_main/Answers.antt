use Rattle.pfc_main_names.proofs.Mains.{are_of_main}
use Rattle.pfc_main_names.proofs.laws.names_are_of_main.Goals as goal

pub returns : goal.returns
returns c = λ t lawful. are_of_main t lawful
