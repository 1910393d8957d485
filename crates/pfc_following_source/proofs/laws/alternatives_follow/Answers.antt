use Rattle.pfc_following_source.proofs.selects.Anywhere.{alternatives_follow_anywhere, opening_follows_anywhere}
use Rattle.pfc_following_source.proofs.laws.alternatives_follow.Goals as goal

pub returns-clause-alternatives : goal.returns-clause-alternatives
returns-clause-alternatives c = λ g b x. alternatives_follow_anywhere g b x

pub returns-clause-written : goal.returns-clause-written
returns-clause-written c = λ g b x. opening_follows_anywhere g b x
