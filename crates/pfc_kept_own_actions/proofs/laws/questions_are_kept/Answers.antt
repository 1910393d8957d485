use Rattle.pfc_kept_own_actions.proofs.Asking.{asked_kept}
use Rattle.pfc_kept_own_actions.proofs.laws.questions_are_kept.Goals as goal

pub returns : goal.returns
returns c = asked_kept
