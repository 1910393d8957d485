use Rattle.pfc_following_statements.proofs.Anywhere.{predeclared_follows}
use Rattle.pfc_following_statements.proofs.laws.procedures_follow.Goals as goal

pub returns : goal.returns
returns c = λ g b x. predeclared_follows g b x
