use Rattle.std.proofs.Common.{◌≡◌, ◌++◌, drop}
use Rattle.pfc_types.specs.Views.{levels}
use Rattle.pfc_types.specs.rules.Constants.{range_extents}
use Rattle.pfc_check.specs.States.{state_of, extents_of}
use Rattle.pfc_check.proofs.state.State.extents.Given as goal

-- what is still to come completes it
abbrev pub invariant-loop-r : goal.invariant-loop-r
invariant-loop-r l =
    extents_of l.extents.items ++ range_extents (state_of l.self).blocks.scopes (levels l.view) (drop l.r-index l.ranges) ≡ range_extents
    (state_of l.self).blocks.scopes (levels l.view) l.ranges
