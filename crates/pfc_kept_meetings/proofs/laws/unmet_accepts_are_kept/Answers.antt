use Rattle.pfc_kept_meetings.proofs.Accepts.{unmet_accept_kept}
use Rattle.pfc_kept_meetings.proofs.laws.unmet_accepts_are_kept.Goals as goal

pub returns : goal.returns
returns c = unmet_accept_kept
