-- Each loop: what is still to come completes it.
use Rattle.std.proofs.Common.{◌≡◌, drop}
use Rattle.pfc_tree.specs.views.Types.{vars_view}
use Rattle.pfc_types.specs.Views.{levels}
use Rattle.pfc_types.specs.rules.Constants.{made_items}
use Rattle.pfc_check.specs.States.{fields_of}
use Rattle.pfc_check.proofs.state.State.+types.Given as goal

abbrev pub invariant-fields-loop-item : goal.invariant-fields-loop-item
invariant-fields-loop-item l =
    made_items (levels l.view) (fields_of l.self l.fields) (vars_view (drop l.item-index l.items)) ≡ made_items (levels l.view)
    (fields_of l.initial.self l.initial.fields) (vars_view l.items)
