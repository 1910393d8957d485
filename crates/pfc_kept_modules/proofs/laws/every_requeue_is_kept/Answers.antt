use Rattle.pfc_kept_modules.proofs.Requeueable.{every_requeue_kept}
use Rattle.pfc_kept_modules.proofs.laws.every_requeue_is_kept.Goals as goal

pub returns : goal.returns
returns c = every_requeue_kept
