use Rattle.pfc_kept_object_actions.proofs.Delaying.{conditions_kept}
use Rattle.pfc_kept_object_actions.proofs.conditions.conditions_are_kept.Goals as goal

pub returns : goal.returns
returns c = conditions_kept
