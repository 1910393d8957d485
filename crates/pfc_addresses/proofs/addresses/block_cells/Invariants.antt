-- The cells of the blocks so far.
use Rattle.std.proofs.Common.{take}
use Rattle.pfc_addresses.specs.Holding.{HoldCells}
use Rattle.pfc_addresses.proofs.addresses.block_cells.Given as goal

abbrev pub invariant-loop-b : goal.invariant-loop-b
invariant-loop-b l = HoldCells l.types (take l.b-index l.blocks.items) l.rows.items
