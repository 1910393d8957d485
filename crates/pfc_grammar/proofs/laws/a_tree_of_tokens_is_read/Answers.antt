use Rattle.pfc_grammar.proofs.ExactTokens.{tree_is_read_again}
use Rattle.pfc_grammar.proofs.laws.a_tree_of_tokens_is_read.Goals as goal

pub returns : goal.returns
returns c = tree_is_read_again
