use Rattle.pfc_kept_modules.proofs.Enterable.{module_may_be_entered}
use Rattle.pfc_kept_modules.proofs.laws.checked_programs_may_enter.Goals as goal

pub returns : goal.returns
returns c = module_may_be_entered
