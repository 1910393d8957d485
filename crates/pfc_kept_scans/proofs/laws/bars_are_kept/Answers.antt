use Rattle.pfc_kept_scans.proofs.Barring.{bars_kept}
use Rattle.pfc_kept_scans.proofs.laws.bars_are_kept.Goals as goal

pub returns : goal.returns
returns c = bars_kept
