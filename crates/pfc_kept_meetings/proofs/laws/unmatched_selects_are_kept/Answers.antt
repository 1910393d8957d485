use Rattle.pfc_kept_meetings.proofs.selects.Deciding.{unmatched_are_kept}
use Rattle.pfc_kept_meetings.proofs.laws.unmatched_selects_are_kept.Goals as goal

pub returns : goal.returns
returns c = unmatched_are_kept
