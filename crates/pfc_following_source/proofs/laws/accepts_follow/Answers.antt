use Rattle.pfc_following_source.proofs.structures.Anywhere.{accepting_follows}
use Rattle.pfc_following_source.proofs.laws.accepts_follow.Goals as goal

pub returns : goal.returns
returns c = λ g b env. accepting_follows g b env
