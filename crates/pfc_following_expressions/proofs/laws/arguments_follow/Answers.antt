use Rattle.pfc_following_expressions.proofs.Anywhere.{arguments_follow}
use Rattle.pfc_following_expressions.proofs.laws.arguments_follow.Goals as goal

pub returns : goal.returns
returns c = λ g b x. arguments_follow g b x
