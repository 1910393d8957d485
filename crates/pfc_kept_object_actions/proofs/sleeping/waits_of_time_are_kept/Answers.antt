use Rattle.pfc_kept_object_actions.proofs.Coends.{time_kept}
use Rattle.pfc_kept_object_actions.proofs.sleeping.waits_of_time_are_kept.Goals as goal

pub returns : goal.returns
returns c = time_kept
