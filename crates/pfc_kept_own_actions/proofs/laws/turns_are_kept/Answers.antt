use Rattle.pfc_kept_own_actions.proofs.Turning.{turns_kept}
use Rattle.pfc_kept_own_actions.proofs.laws.turns_are_kept.Goals as goal

pub returns : goal.returns
returns c = turns_kept
