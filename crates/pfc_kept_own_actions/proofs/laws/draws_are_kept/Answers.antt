use Rattle.pfc_kept_own_actions.proofs.Asking.{drawn_kept}
use Rattle.pfc_kept_own_actions.proofs.laws.draws_are_kept.Goals as goal

pub returns : goal.returns
returns c = drawn_kept
