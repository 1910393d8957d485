use Rattle.std.proofs.Common.{◌≡◌, drop}
use Rattle.pfc_types.specs.rules.Declarations.{var_names_state}
use Rattle.pfc_check.specs.States.{state_of}
use Rattle.pfc_check.proofs.state.State.var_names.Given as goal

-- what is still to come completes it
abbrev pub invariant-loop-x : goal.invariant-loop-x
invariant-loop-x l =
    var_names_state (state_of l.self) l.i l.t (drop l.x-index l.names) ≡ var_names_state (state_of l.initial.self) l.i l.t l.names
