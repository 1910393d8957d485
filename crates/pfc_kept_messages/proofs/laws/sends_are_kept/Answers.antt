use Rattle.pfc_kept_messages.proofs.Sending.{sends_kept}
use Rattle.pfc_kept_messages.proofs.laws.sends_are_kept.Goals as goal

pub returns : goal.returns
returns c = sends_kept
