use Rattle.std.proofs.Common.{◌≡◌, drop}
use Rattle.pfc_tree.specs.views.Exprs.{actuals_view}
use Rattle.pfc_unseen_code.specs.Calls.{with_items}
use Rattle.pfc_unseen_code.proofs.calls.items.Given as goal

abbrev pub invariant-loop-a : goal.invariant-loop-a
invariant-loop-a l = with_items (actuals_view (drop l.a-index l.args)) l.code ≡ with_items (actuals_view l.args) l.initial.code
