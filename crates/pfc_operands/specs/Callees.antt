-- What is known of the blocks that are called.
use Rattle.std.specs.Prelude.{◌≡◌, ℕ, List, get_or}
use Rattle.pfc_tree.specs.declared.tree.Tree.{Tree}
use Rattle.pfc_tree.specs.views.Parts.{tree_view}
use Rattle.pfc_types.specs.Blocks.{Blocks}
use Rattle.pfc_types.specs.Types.{Forms}
use Rattle.pfc_semantics.specs.Programs.{Program, program_over}
use Rattle.pfc_translation.specs.Operands.{arguments, results}

-- a program over its table of types and its scopes
unfoldable pub program_in : Tree → Forms → Blocks → Program
program_in tree forms blocks = program_over (record { forms = forms; blocks = blocks }) (tree_view tree)

-- the cells of each block's parameters, and of each block's result
pub record AreCallees (g : Program) (params : List ℕ) (values : List ℕ) : Type 0 where
  pub params_are : (k : ℕ) → get_or params k 0 ≡ arguments g k
  pub values_are : (k : ℕ) → get_or values k 0 ≡ results g k
