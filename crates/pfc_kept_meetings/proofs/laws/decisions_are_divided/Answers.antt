use Rattle.pfc_kept_meetings.proofs.selects.Divided.{divided}
use Rattle.pfc_kept_meetings.proofs.laws.decisions_are_divided.Goals as goal

pub returns : goal.returns
returns c = divided
