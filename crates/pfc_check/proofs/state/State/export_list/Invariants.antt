use Rattle.std.proofs.Common.{◌≡◌, drop}
use Rattle.pfc_types.specs.rules.Declarations.{export_list}
use Rattle.pfc_check.specs.States.{state_of}
use Rattle.pfc_check.proofs.state.State.export_list.Given as goal

-- what is still to come completes it
abbrev pub invariant-loop-x : goal.invariant-loop-x
invariant-loop-x l =
    export_list (state_of l.self) l.i (drop l.x-index l.names) ≡ export_list (state_of l.initial.self) l.i l.names
