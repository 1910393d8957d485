-- The names still to come complete the count.
use Rattle.std.proofs.Common.{◌≡◌, drop, map}
use Rattle.pfc_tree.specs.views.Types.{group_view}
use Rattle.pfc_types.specs.Scopes.{scope_at}
use Rattle.pfc_types.specs.rules.Bodies.{passed_groups}
use Rattle.pfc_rules.proofs.passing.passed_groups.Given as goal

abbrev pub invariant-loop-g : goal.invariant-loop-g
invariant-loop-g l =
    passed_groups (scope_at l.scopes.scopes l.scope) l.n (map group_view (drop l.g-index l.groups)) ≡ passed_groups
    (scope_at l.fn.scopes.scopes l.fn.scope) l.fn.count (map group_view l.groups)
