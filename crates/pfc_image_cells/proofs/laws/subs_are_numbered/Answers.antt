use Rattle.pfc_image_cells.proofs.Subs.{program_subs}
use Rattle.pfc_image_cells.proofs.laws.subs_are_numbered.Goals as goal

pub returns : goal.returns
returns c = λ t. program_subs t
