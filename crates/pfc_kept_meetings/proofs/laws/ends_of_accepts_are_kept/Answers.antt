use Rattle.pfc_kept_meetings.proofs.Parts.{ends_kept}
use Rattle.pfc_kept_meetings.proofs.laws.ends_of_accepts_are_kept.Goals as goal

pub returns : goal.returns
returns c = ends_kept
