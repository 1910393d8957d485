use Rattle.pfc_following_source.proofs.structures.Anywhere.{cobegin_statement_follows}
use Rattle.pfc_following_source.proofs.laws.cobegins_follow.Goals as goal

pub returns : goal.returns
returns c = λ g b env. cobegin_statement_follows g b env
