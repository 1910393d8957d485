-- The variables still to come complete the row.
use Rattle.std.proofs.Common.{◌≡◌, ◌++◌, drop}
use Rattle.pfc_addresses.specs.Rows.{cells_from}
use Rattle.pfc_addresses.proofs.rows.cells.Given as goal

abbrev pub invariant-loop-m : goal.invariant-loop-m
invariant-loop-m l = l.sums.items ++ cells_from l.types l.cell (drop l.m-index l.layout) ≡ cells_from l.types 0 l.layout
