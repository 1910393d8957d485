-- The names still to come complete the count.
use Rattle.std.proofs.Common.{◌≡◌, drop}
use Rattle.pfc_tree.specs.views.Types.{vars_view}
use Rattle.pfc_types.specs.Scopes.{scope_at}
use Rattle.pfc_types.specs.rules.Bodies.{passed_vars}
use Rattle.pfc_rules.proofs.passing.passed_vars.Given as goal

abbrev pub invariant-loop-v : goal.invariant-loop-v
invariant-loop-v l =
    passed_vars (scope_at l.scopes.scopes l.scope) l.n (vars_view (drop l.v-index l.items)) ≡ passed_vars
    (scope_at l.fn.scopes.scopes l.fn.scope) l.fn.count (vars_view l.items)
