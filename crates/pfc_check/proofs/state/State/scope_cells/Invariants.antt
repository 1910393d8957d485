use Rattle.std.proofs.Common.{◌≡◌, ◌+◌, ◌*◌, ◌≤◌, drop}
use Rattle.pfc_types.specs.rules.Declarations.{scope_cells}
use Rattle.pfc_check.specs.States.{state_of}
use Rattle.pfc_check.proofs.state.State.scope_cells.Given as goal

-- what is still to come completes it
abbrev pub invariant-loop-k : goal.invariant-loop-k
invariant-loop-k l =
    record {
      value : l.cells + scope_cells (state_of l.self).forms (drop l.k l.scope) ≡ scope_cells (state_of l.self).forms l.scope;
      bound : l.cells ≤ 65536 * l.k;
    }
