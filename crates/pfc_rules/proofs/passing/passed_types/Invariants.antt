-- The names still to come complete the count.
use Rattle.std.proofs.Common.{◌≡◌, drop, map}
use Rattle.pfc_tree.specs.views.Types.{type_item_view}
use Rattle.pfc_types.specs.Scopes.{scope_at}
use Rattle.pfc_types.specs.rules.Bodies.{passed_types}
use Rattle.pfc_rules.proofs.passing.passed_types.Given as goal

abbrev pub invariant-loop-d : goal.invariant-loop-d
invariant-loop-d l =
    passed_types (scope_at l.scopes.scopes l.scope) l.n (map type_item_view (drop l.d-index l.items)) ≡ passed_types
    (scope_at l.fn.scopes.scopes l.fn.scope) l.fn.count (map type_item_view l.items)
