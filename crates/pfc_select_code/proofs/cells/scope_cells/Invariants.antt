-- The names still to come complete the sum.
use Rattle.std.proofs.Common.{◌≡◌, ◌+◌, drop}
use Rattle.pfc_types.specs.Scopes.{scope_at}
use Rattle.pfc_types.specs.rules.Declarations.{scope_cells}
use Rattle.pfc_select_code.proofs.cells.scope_cells.Given as goal

abbrev pub invariant-loop-k : goal.invariant-loop-k
invariant-loop-k l = l.cells + scope_cells l.types (drop l.k (scope_at l.scopes.scopes l.i)) ≡ scope_cells l.types (scope_at l.scopes.scopes l.i)
