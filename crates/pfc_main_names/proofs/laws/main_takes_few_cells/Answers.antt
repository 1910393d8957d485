use Rattle.pfc_name_laws.proofs.Numbers.{none_noted}
use Rattle.pfc_main_names.proofs.Cells.{few_cells}
use Rattle.pfc_main_names.proofs.laws.main_takes_few_cells.Goals as goal

pub returns : goal.returns
returns c = λ t lawful whole. few_cells t lawful (none_noted t whole)
