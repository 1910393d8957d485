-- The cells of a process with one activation more.
use Rattle.std.specs.Prelude.{◌≡◌, ℕ, nat_le, false}
use Rattle.pfc_program.specs.declared.blocks.Block.{Block}
use Rattle.pfc_program.specs.declared.tables.Tables.{Tables}
use Rattle.pfc_program.specs.Views.{block_view}
use Rattle.pfc_semantics.specs.Calls.{cells_above, most_cells}
use Rattle.pfc_activities.specs.declared.activities.Activity.{Activity}
use Rattle.pfc_activities.specs.declared.state.State.{State}
use Rattle.pfc_activities.specs.Relation.{IsIn}
use Rattle.pfc_activities.specs.Views.{activations_view}

-- with one of this block process p has so many
abbrev pub HasCells : State → ℕ → Block → ℕ → Type 0
HasCells s p block n = (a : Activity) → IsIn s.activities.items p a → (t : Tables) →
    cells_above (activations_view t a.activations.items) (block_view t block) ≡ n

-- it has too many
abbrev pub IsFull : State → ℕ → Block → Type 0
IsFull s p block =
    (a : Activity) → IsIn s.activities.items p a → (t : Tables)
    → nat_le (cells_above (activations_view t a.activations.items) (block_view t block)) (most_cells p) ≡ false
