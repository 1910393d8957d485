use Rattle.std.proofs.Common.{◌≡◌, drop, map}
use Rattle.pfc_tree.specs.views.Types.{group_view}
use Rattle.pfc_types.specs.rules.Declarations.{groups_heading}
use Rattle.pfc_check.specs.States.{around, heading_of}
use Rattle.pfc_check.proofs.state.State.heading.Given as goal

-- what is still to come completes it
abbrev pub invariant-loop-g : goal.invariant-loop-g
invariant-loop-g l =
    groups_heading l.block.scope (around l.block) (heading_of l.self l.heading) (map group_view (drop l.g-index l.groups)) ≡ groups_heading l.block.scope
    (around l.block) (heading_of l.initial.self l.initial.heading) (map group_view l.groups)
