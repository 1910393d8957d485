use Rattle.pfc_main_names.proofs.Scans.{few_scans}
use Rattle.pfc_main_names.proofs.laws.scans_are_instructions.Goals as goal

pub returns : goal.returns
returns c = λ t. few_scans t
