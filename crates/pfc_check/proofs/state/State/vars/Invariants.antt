use Rattle.std.proofs.Common.{◌≡◌, drop}
use Rattle.pfc_tree.specs.views.Types.{vars_view}
use Rattle.pfc_types.specs.rules.Declarations.{vars_state}
use Rattle.pfc_check.specs.States.{state_of, around, owner_of}
use Rattle.pfc_check.proofs.state.State.vars.Given as goal

-- what is still to come completes it
abbrev pub invariant-loop-item : goal.invariant-loop-item
invariant-loop-item l =
    vars_state (owner_of l.owner) (state_of l.self) l.block.scope (around l.block) (vars_view (drop l.item-index l.items)) ≡ vars_state (owner_of l.owner)
    (state_of l.initial.self) l.block.scope (around l.block) (vars_view l.items)
