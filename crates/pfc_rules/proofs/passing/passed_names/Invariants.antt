-- The names still to come complete the count.
use Rattle.std.proofs.Common.{◌≡◌, drop}
use Rattle.pfc_types.specs.Scopes.{scope_at}
use Rattle.pfc_types.specs.rules.Bodies.{passed_names}
use Rattle.pfc_rules.proofs.passing.passed_names.Given as goal

abbrev pub invariant-loop-x : goal.invariant-loop-x
invariant-loop-x l =
    passed_names (scope_at l.scopes.scopes l.scope) l.n (drop l.x-index l.xs) ≡ passed_names (scope_at l.fn.scopes.scopes l.fn.scope) l.fn.count l.xs
