use Rattle.pfc_kept_modules.proofs.Requeueing.{requeued_kept}
use Rattle.pfc_kept_modules.proofs.laws.requeues_are_kept.Goals as goal

pub returns : goal.returns
returns c = requeued_kept
