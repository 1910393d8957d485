use Rattle.pfc_kept_meetings.proofs.Calling.{entry_call_kept}
use Rattle.pfc_kept_meetings.proofs.laws.calls_of_entries_are_kept.Goals as goal

pub returns : goal.returns
returns c = entry_call_kept
