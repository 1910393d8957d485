use Rattle.pfc_following_statements.proofs.Anywhere.{write_follows, read_follows}
use Rattle.pfc_following_statements.proofs.laws.output_and_input_follow.Goals as goal

pub returns-clause-output : goal.returns-clause-output
returns-clause-output c = λ g b x. write_follows g b x

pub returns-clause-input : goal.returns-clause-input
returns-clause-input c = λ g b x. read_follows g b x
