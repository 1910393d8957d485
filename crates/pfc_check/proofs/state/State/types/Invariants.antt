use Rattle.std.proofs.Common.{◌≡◌, drop, map}
use Rattle.pfc_tree.specs.views.Types.{type_item_view}
use Rattle.pfc_types.specs.rules.Declarations.{types_state}
use Rattle.pfc_check.specs.States.{state_of, around}
use Rattle.pfc_check.proofs.state.State.types.Given as goal

-- what is still to come completes it
abbrev pub invariant-loop-d : goal.invariant-loop-d
invariant-loop-d l =
    types_state (state_of l.self) l.block.scope (around l.block) (map type_item_view (drop l.d-index l.items)) ≡ types_state
    (state_of l.initial.self) l.block.scope (around l.block) (map type_item_view l.items)
