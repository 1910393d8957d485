use Rattle.pfc_following_source.proofs.Meetings.{meetings_led}
use Rattle.pfc_following_source.proofs.laws.meetings_lead_on.Goals as goal

pub returns : goal.returns
returns c = λ g. meetings_led g
