use Rattle.pfc_kept_object_actions.proofs.Signals.{semaphores_kept}
use Rattle.pfc_kept_object_actions.proofs.semaphores.semaphores_are_kept.Goals as goal

pub returns : goal.returns
returns c = semaphores_kept
