use Rattle.pfc_kept_lives.proofs.Creating.{creations_kept}
use Rattle.pfc_kept_lives.proofs.laws.creations_are_kept.Goals as goal

pub returns : goal.returns
returns c = creations_kept
