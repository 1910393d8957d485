use Rattle.pfc_kept_scans.proofs.Passing.{passes_kept}
use Rattle.pfc_kept_scans.proofs.laws.passes_are_kept.Goals as goal

pub returns : goal.returns
returns c = passes_kept
