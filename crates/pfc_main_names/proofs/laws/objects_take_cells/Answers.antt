use Rattle.pfc_main_names.proofs.Conditions.{few_objects}
use Rattle.pfc_main_names.proofs.laws.objects_take_cells.Goals as goal

pub returns : goal.returns
returns c = λ t lawful. few_objects t lawful
