use Rattle.pfc_kept_modules.proofs.Entering.{modules_kept}
use Rattle.pfc_kept_modules.proofs.laws.entries_are_kept.Goals as goal

pub returns : goal.returns
returns c = modules_kept
