use Rattle.pfc_grammar.proofs.placed_one.Parts.{one_tree_of}
use Rattle.pfc_grammar.proofs.laws.a_text_has_one_tree.Goals as goal

pub returns : goal.returns
returns c = one_tree_of
