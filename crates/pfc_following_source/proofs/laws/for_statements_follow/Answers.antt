use Rattle.pfc_following_source.proofs.structures.Anywhere.{for_statement_follows}
use Rattle.pfc_following_source.proofs.laws.for_statements_follow.Goals as goal

pub returns : goal.returns
returns c = λ g b env. for_statement_follows g b env
