use Rattle.pfc_following_source.proofs.selects.Anywhere.{select_follows_anywhere, select_else_follows_anywhere}
use Rattle.pfc_following_source.proofs.laws.selects_follow.Goals as goal

pub returns-clause-without_else : goal.returns-clause-without_else
returns-clause-without_else c = λ g b x. select_follows_anywhere g b x

pub returns-clause-with_else : goal.returns-clause-with_else
returns-clause-with_else c = λ g b x. select_else_follows_anywhere g b x
