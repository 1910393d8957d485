-- The names still to come complete the count.
use Rattle.std.proofs.Common.{◌≡◌, ◌+◌, drop, length}
use Rattle.pfc_types.specs.Scopes.{scope_at}
use Rattle.pfc_semantics.specs.Layouts.{laid_names}
use Rattle.pfc_select_code.proofs.cells.variables_in.Given as goal

abbrev pub invariant-loop-k : goal.invariant-loop-k
invariant-loop-k l = l.n + length (laid_names (drop l.k (scope_at l.scopes.scopes l.i))) ≡ length (laid_names (scope_at l.scopes.scopes l.i))
