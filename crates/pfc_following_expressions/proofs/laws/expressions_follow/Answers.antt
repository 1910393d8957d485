use Rattle.pfc_following_expressions.proofs.Anywhere.{expression_follows}
use Rattle.pfc_following_expressions.proofs.laws.expressions_follow.Goals as goal

pub returns : goal.returns
returns c = λ g b x. expression_follows g b x
