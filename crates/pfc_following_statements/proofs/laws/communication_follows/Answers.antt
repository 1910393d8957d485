use Rattle.pfc_following_statements.proofs.Anywhere.{sends_follow, receives_follow}
use Rattle.pfc_following_statements.proofs.laws.communication_follows.Goals as goal

pub returns-clause-sends : goal.returns-clause-sends
returns-clause-sends c = λ g b x. sends_follow g b x

pub returns-clause-receives : goal.returns-clause-receives
returns-clause-receives c = λ g b x. receives_follow g b x
