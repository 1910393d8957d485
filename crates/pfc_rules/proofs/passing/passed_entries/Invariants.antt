-- The names still to come complete the count.
use Rattle.std.proofs.Common.{◌≡◌, drop, map}
use Rattle.pfc_tree.specs.views.Parts.{entry_view}
use Rattle.pfc_types.specs.Scopes.{scope_at}
use Rattle.pfc_types.specs.rules.Bodies.{passed_entries}
use Rattle.pfc_rules.proofs.passing.passed_entries.Given as goal

abbrev pub invariant-loop-e : goal.invariant-loop-e
invariant-loop-e l =
    passed_entries (scope_at l.scopes.scopes l.scope) l.n (map entry_view (drop l.e-index l.entries)) ≡ passed_entries
    (scope_at l.fn.scopes.scopes l.fn.scope) l.fn.count (map entry_view l.entries)
