use Rattle.pfc_following_statements.proofs.Anywhere.{assignment_follows}
use Rattle.pfc_following_statements.proofs.laws.assignments_follow.Goals as goal

pub returns : goal.returns
returns c = λ g b x. assignment_follows g b x
