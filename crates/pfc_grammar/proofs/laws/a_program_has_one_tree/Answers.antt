use Rattle.pfc_grammar.proofs.Exact.{one_tree}
use Rattle.pfc_grammar.proofs.laws.a_program_has_one_tree.Goals as goal

pub returns : goal.returns
returns c = one_tree
