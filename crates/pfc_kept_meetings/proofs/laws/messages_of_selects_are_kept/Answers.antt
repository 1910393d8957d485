use Rattle.pfc_kept_meetings.proofs.selects.Messages.{messages_are_kept}
use Rattle.pfc_kept_meetings.proofs.laws.messages_of_selects_are_kept.Goals as goal

pub returns : goal.returns
returns c = messages_are_kept
