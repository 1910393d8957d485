use Rattle.pfc_kept_meetings.proofs.Joining.{accept_is_kept}
use Rattle.pfc_kept_meetings.proofs.laws.accepts_are_kept.Goals as goal

pub returns : goal.returns
returns c = accept_is_kept
