use Rattle.std.proofs.Common.{◌≡◌, drop, map}
use Rattle.pfc_types.specs.rules.Declarations.{exports_state}
use Rattle.pfc_check.specs.States.{state_of}
use Rattle.pfc_check.proofs.state.State.exports.Given as goal

-- what is still to come completes it
abbrev pub invariant-loop-names : goal.invariant-loop-names
invariant-loop-names l =
    exports_state (state_of l.self) l.i (map (λ xs. xs.items) (drop l.names-index l.lists)) ≡ exports_state
    (state_of l.initial.self) l.i (map (λ xs. xs.items) l.lists)
