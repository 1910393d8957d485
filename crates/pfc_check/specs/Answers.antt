-- The answers of the check.
use Rattle.std.specs.Prelude.{◌≡◌, Some}
use Rattle.pfc_tree.specs.declared.tree.Tree.{Tree}
use Rattle.pfc_tree.specs.views.Parts.{tree_view}
use Rattle.pfc_types.specs.rules.Whole.{first_fault}
use Rattle.pfc_check.specs.declared.checker.CheckFault.{CheckFault}
use Rattle.pfc_check.specs.declared.checker.CheckFault.TheVariants.{Refused, Memory}

-- The tree is handed back as it was given, and a refusal is the first fault of the tree.
abbrev pub IsFault : Tree → CheckFault → Type 0
IsFault tree (Refused refusal back) = (first_fault (tree_view tree) ≡ Some refusal) × (back ≡ tree)
IsFault tree (Memory back) = back ≡ tree
