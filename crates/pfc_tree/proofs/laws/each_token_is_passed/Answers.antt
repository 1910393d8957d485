use Rattle.pfc_tree.proofs.kept.Parts.{program_passed}
use Rattle.pfc_tree.proofs.laws.each_token_is_passed.Goals as goal

pub returns : goal.returns
returns c = program_passed
