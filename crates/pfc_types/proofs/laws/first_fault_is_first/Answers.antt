use Rattle.pfc_tree.specs.views.Parts.{tree_view}
use Rattle.pfc_types.specs.rules.Whole.{faults_of}
use Rattle.pfc_types.proofs.First.{first_of_listed}
use Rattle.pfc_types.proofs.laws.first_fault_is_first.Goals as goal

pub returns : goal.returns
returns c = first_of_listed 0 (faults_of (tree_view c.args.tree.now))
