use Rattle.pfc_kept_meetings.proofs.EntryCalls.{unmet_call_kept}
use Rattle.pfc_kept_meetings.proofs.laws.unmet_calls_are_kept.Goals as goal

pub returns : goal.returns
returns c = unmet_call_kept
