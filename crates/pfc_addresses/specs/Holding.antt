-- What the tables of a program hold.
use Rattle.std.specs.Prelude.{◌≡◌, ℕ, List, map}
use Rattle.pfc_types.specs.Types.{Forms}
use Rattle.pfc_program.specs.declared.blocks.Block.{Block}
use Rattle.pfc_addresses.specs.Rows.{cells_from}

-- the cells of the variables of each block
abbrev pub HoldCells : Forms → List Block → List (List ℕ) → Type 0
HoldCells forms blocks rows = rows ≡ map (λ b. cells_from forms 0 b.layout.items) blocks
