use Rattle.pfc_following_source.proofs.structures.Left.{remainder_follows}
use Rattle.pfc_following_source.proofs.laws.remainders_follow.Goals as goal

pub returns : goal.returns
returns c = λ g. remainder_follows g
