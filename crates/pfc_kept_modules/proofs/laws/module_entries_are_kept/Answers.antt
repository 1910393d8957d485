use Rattle.pfc_kept_modules.proofs.Enterable.{module_entries_kept}
use Rattle.pfc_kept_modules.proofs.laws.module_entries_are_kept.Goals as goal

pub returns : goal.returns
returns c = module_entries_kept
