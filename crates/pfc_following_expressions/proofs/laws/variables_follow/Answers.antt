use Rattle.pfc_following_expressions.proofs.Anywhere.{variable_follows}
use Rattle.pfc_following_expressions.proofs.laws.variables_follow.Goals as goal

pub returns : goal.returns
returns c = λ g b x. variable_follows g b x
