use Rattle.pfc_kept_own_actions.proofs.Writing.{writes_kept}
use Rattle.pfc_kept_own_actions.proofs.laws.writes_are_kept.Goals as goal

pub returns : goal.returns
returns c = writes_kept
