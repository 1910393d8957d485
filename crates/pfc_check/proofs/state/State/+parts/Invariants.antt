-- Each loop: what is still to come completes it.
use Rattle.std.proofs.Common.{◌≡◌, drop}
use Rattle.pfc_tree.specs.views.Parts.{parts_view}
use Rattle.pfc_types.specs.rules.Declarations.{parts_state}
use Rattle.pfc_check.specs.States.{state_of, around, owner_of}
use Rattle.pfc_check.proofs.state.State.+parts.Given as goal

abbrev pub invariant-parts-loop-part : goal.invariant-parts-loop-part
invariant-parts-loop-part l =
    parts_state (owner_of l.owner) (state_of l.self) l.block.scope (around l.block) (parts_view (drop l.part-index l.parts)) ≡ parts_state (owner_of l.owner)
    (state_of l.initial.self) l.block.scope (around l.block) (parts_view l.parts)
