use Rattle.pfc_kept_modules.proofs.Ending.{procedure_left}
use Rattle.pfc_kept_modules.proofs.laws.procedures_are_left.Goals as goal

pub returns : goal.returns
returns c = procedure_left
