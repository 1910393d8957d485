use Rattle.pfc_following_source.proofs.structures.Anywhere.{select_statement_follows}
use Rattle.pfc_following_source.proofs.laws.select_statements_follow.Goals as goal

pub returns : goal.returns
returns c = λ g b env. select_statement_follows g b env
