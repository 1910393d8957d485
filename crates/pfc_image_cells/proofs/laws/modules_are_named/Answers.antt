use Rattle.pfc_name_laws.proofs.Numbers.{none_noted}
use Rattle.pfc_image_cells.proofs.Subs.{program_named}
use Rattle.pfc_image_cells.proofs.laws.modules_are_named.Goals as goal

pub returns : goal.returns
returns c = λ t lawful whole. program_named t lawful (none_noted t whole)
