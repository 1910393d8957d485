use Rattle.std.proofs.Common.{◌≡◌, drop}
use Rattle.pfc_types.specs.rules.Declarations.{consts_state}
use Rattle.pfc_check.specs.States.{state_of, around}
use Rattle.pfc_check.proofs.state.State.consts.Given as goal

-- what is still to come completes it
abbrev pub invariant-loop-c : goal.invariant-loop-c
invariant-loop-c l =
    consts_state (state_of l.self) l.block.scope (around l.block) (drop l.c-index l.items) ≡ consts_state
    (state_of l.initial.self) l.block.scope (around l.block) l.items
