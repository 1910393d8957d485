use Rattle.pfc_kept_lives.proofs.Ending.{ends_kept}
use Rattle.pfc_kept_lives.proofs.laws.ends_are_kept.Goals as goal

pub returns : goal.returns
returns c = ends_kept
