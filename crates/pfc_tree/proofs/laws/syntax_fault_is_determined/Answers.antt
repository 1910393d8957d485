use Rattle.pfc_tree.proofs.Faults.{unexpected_is_one, deep_is_one, never_both, code_is_one, place_is_one}
use Rattle.pfc_tree.proofs.laws.syntax_fault_is_determined.Goals as goal

pub returns-clause-unexpected : goal.returns-clause-unexpected
returns-clause-unexpected c = unexpected_is_one

pub returns-clause-deep : goal.returns-clause-deep
returns-clause-deep c = deep_is_one

pub returns-clause-apart : goal.returns-clause-apart
returns-clause-apart c = never_both

pub returns-clause-code : goal.returns-clause-code
returns-clause-code c = code_is_one

pub returns-clause-place : goal.returns-clause-place
returns-clause-place c = place_is_one
