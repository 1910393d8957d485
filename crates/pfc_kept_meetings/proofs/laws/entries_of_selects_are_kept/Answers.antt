use Rattle.pfc_kept_meetings.proofs.entries.Entered.{entries_are_kept}
use Rattle.pfc_kept_meetings.proofs.laws.entries_of_selects_are_kept.Goals as goal

pub returns : goal.returns
returns c = entries_are_kept
