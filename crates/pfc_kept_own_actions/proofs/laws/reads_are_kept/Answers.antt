use Rattle.pfc_kept_own_actions.proofs.Trying.{reads_kept}
use Rattle.pfc_kept_own_actions.proofs.laws.reads_are_kept.Goals as goal

pub returns : goal.returns
returns c = reads_kept
