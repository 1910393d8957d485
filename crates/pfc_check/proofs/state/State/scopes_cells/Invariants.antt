use Rattle.std.proofs.Common.{◌≡◌, ◌+◌, ◌≤◌, drop}
use Rattle.pfc_types.specs.rules.Declarations.{scopes_cells}
use Rattle.pfc_check.specs.States.{state_of}
use Rattle.pfc_check.specs.Cells.{most}
use Rattle.pfc_check.proofs.state.State.scopes_cells.Given as goal

-- what is still to come completes it
abbrev pub invariant-loop-i : goal.invariant-loop-i
invariant-loop-i l =
    record {
      value : most (l.cells + scopes_cells (state_of l.self).forms (drop l.i (state_of l.self).blocks.scopes)) ≡ most
          (scopes_cells (state_of l.self).forms (drop l.k (state_of l.self).blocks.scopes));
      bound : l.cells ≤ 18446744073709551615;
    }
