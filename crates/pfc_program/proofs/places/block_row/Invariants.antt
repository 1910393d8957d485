-- The names still to come complete the row.
use Rattle.std.proofs.Common.{◌≡◌, ◌++◌, ◌==◌, drop, position}
use Rattle.pfc_types.specs.Scopes.{scope_at}
use Rattle.pfc_semantics.specs.Layouts.{sub_with, before_scope}
use Rattle.pfc_program.specs.Places.{block_places}
use Rattle.pfc_program.proofs.places.block_row.Given as goal

abbrev pub invariant-loop-k : goal.invariant-loop-k
invariant-loop-k l =
    l.row.items ++ block_places (sub_with l.lookups.scopes.now.subs l.i) l.n l.k (drop l.k (scope_at l.lookups.scopes.now.scopes l.i))
    ≡ block_places (sub_with l.lookups.scopes.now.subs l.i) (before_scope l.lookups.scopes.now (position (λ m. m.scope == l.i) l.lookups.scopes.now.modules)) 0
    (scope_at l.lookups.scopes.now.scopes l.i)
