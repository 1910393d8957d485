use Rattle.pfc_following_source.proofs.awaits.Anywhere.{locations_follow_anywhere}
use Rattle.pfc_following_source.proofs.laws.locations_follow.Goals as goal

pub returns : goal.returns
returns c = λ g b x. locations_follow_anywhere g b x
