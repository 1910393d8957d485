-- The variables still to come complete the sum.
use Rattle.std.proofs.Common.{◌≡◌, ◌+◌, drop}
use Rattle.pfc_semantics.specs.Programs.{layout_cells}
use Rattle.pfc_select_code.proofs.cells.cells_in.Given as goal

abbrev pub invariant-loop-m : goal.invariant-loop-m
invariant-loop-m l = l.cells + layout_cells l.types (drop l.m-index l.layout) ≡ layout_cells l.types l.layout
