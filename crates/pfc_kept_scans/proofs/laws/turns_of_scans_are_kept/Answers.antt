use Rattle.pfc_kept_scans.proofs.Scanning.{turns_kept}
use Rattle.pfc_kept_scans.proofs.laws.turns_of_scans_are_kept.Goals as goal

pub returns : goal.returns
returns c = turns_kept
