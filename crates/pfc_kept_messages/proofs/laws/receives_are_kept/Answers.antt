use Rattle.pfc_kept_messages.proofs.Receiving.{receives_kept}
use Rattle.pfc_kept_messages.proofs.laws.receives_are_kept.Goals as goal

pub returns : goal.returns
returns c = receives_kept
