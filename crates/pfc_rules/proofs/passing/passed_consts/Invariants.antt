-- The names still to come complete the count.
use Rattle.std.proofs.Common.{◌≡◌, drop}
use Rattle.pfc_types.specs.Scopes.{scope_at}
use Rattle.pfc_types.specs.rules.Bodies.{passed_consts}
use Rattle.pfc_rules.proofs.passing.passed_consts.Given as goal

abbrev pub invariant-loop-c : goal.invariant-loop-c
invariant-loop-c l =
    passed_consts (scope_at l.scopes.scopes l.scope) l.n (drop l.c-index l.items) ≡ passed_consts (scope_at l.fn.scopes.scopes l.fn.scope) l.fn.count l.items
