-- The accepts still to come complete the row.
use Rattle.std.proofs.Common.{◌≡◌, ◌++◌, ◌-◌, length}
use Rattle.pfc_types.specs.Scopes.{scope_at}
use Rattle.pfc_semantics.specs.Layouts.{laid_names}
use Rattle.pfc_addresses.specs.Rows.{accepts_from}
use Rattle.pfc_addresses.proofs.rows.accepts.Given as goal

abbrev pub invariant-loop-i : goal.invariant-loop-i
invariant-loop-i l =
    l.sums.items ++ accepts_from l.scopes.scopes l.n l.i (l.to - l.i)
    ≡ accepts_from l.scopes.scopes (length (laid_names (scope_at l.scopes.scopes l.own))) l.from (l.to - l.from)
