-- The cells so far.
use Rattle.std.proofs.Common.{◌≡◌, take}
use Rattle.pfc_semantics.specs.Programs.{layout_cells}
use Rattle.pfc_blocks.proofs.parameters.first_cells.Given as goal

abbrev pub invariant-loop-k : goal.invariant-loop-k
invariant-loop-k l = l.cells ≡ layout_cells l.types (take l.k l.layout)
