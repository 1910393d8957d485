use Rattle.pfc_following_statements.proofs.Anywhere.{every_call_follows as by_every_call_follows}
use Rattle.pfc_following_statements.proofs.laws.every_call_follows.Goals as goal

pub returns : goal.returns
returns c = λ g b x. by_every_call_follows g b x
