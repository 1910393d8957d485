use Rattle.pfc_following_source.proofs.awaits.Anywhere.{values_follow_anywhere}
use Rattle.pfc_following_source.proofs.laws.values_follow.Goals as goal

pub returns : goal.returns
returns c = λ g b x. values_follow_anywhere g b x
