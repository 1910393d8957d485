-- What a checked tree keeps.
use Rattle.std.specs.Prelude.{◌≡◌, None}
use Rattle.pfc_tree.specs.Grammar.{IsSmall}
use Rattle.pfc_tree.specs.forget.Parts.{forget_program}
use Rattle.pfc_tree.specs.trees.Parts.{ProgramTree}
use Rattle.pfc_types.specs.Types.{Forms}
use Rattle.pfc_types.specs.Blocks.{Blocks}
use Rattle.pfc_types.specs.rules.Whole.{first_fault, types_of, scopes_of}

-- The tree is small, no static rule is broken in it, and the table and the scopes are those that its declarations make.
pub record IsChecked (tree : ProgramTree) (types : Forms) (scopes : Blocks) : Type 0 where
  pub small : IsSmall (forget_program tree)
  pub whole : first_fault tree ≡ None
  pub types_made : types ≡ types_of tree
  pub scopes_made : scopes ≡ scopes_of tree
