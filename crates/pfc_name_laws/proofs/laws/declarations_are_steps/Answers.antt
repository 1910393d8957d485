use Rattle.pfc_name_laws.proofs.Parts.{finished_reached}
use Rattle.pfc_name_laws.proofs.laws.declarations_are_steps.Goals as goal

pub returns : goal.returns
returns c = λ t. finished_reached t
