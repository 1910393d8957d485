use Rattle.pfc_kept_own_actions.proofs.Taking.{taken_kept}
use Rattle.pfc_kept_own_actions.proofs.laws.input_is_kept.Goals as goal

pub returns : goal.returns
returns c = taken_kept
