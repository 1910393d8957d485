-- The names still to come complete the row.
use Rattle.std.proofs.Common.{◌≡◌, ◌++◌, drop}
use Rattle.pfc_types.specs.Scopes.{scope_at}
use Rattle.pfc_program.specs.Places.{main_places}
use Rattle.pfc_program.proofs.places.main_row.Given as goal

abbrev pub invariant-loop-k : goal.invariant-loop-k
invariant-loop-k l = l.row.items ++ main_places l.scopes l.n (drop l.k (scope_at l.scopes.scopes 0)) ≡ main_places l.scopes 0 (scope_at l.scopes.scopes 0)
