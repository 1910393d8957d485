use Rattle.pfc_tree.proofs.depths.Parts.{program_even}
use Rattle.pfc_tree.proofs.laws.each_token_has_a_depth.Goals as goal

pub returns : goal.returns
returns c = program_even
