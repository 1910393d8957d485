use Rattle.std.proofs.Common.{◌≡◌, ◌+◌, ◌≤◌, drop, sum_by}
use Rattle.pfc_types.specs.Scopes.{scope_at}
use Rattle.pfc_types.specs.rules.Declarations.{scope_cells}
use Rattle.pfc_types.specs.rules.Whole.{main_cells}
use Rattle.pfc_check.specs.States.{state_of}
use Rattle.pfc_check.specs.Cells.{most}
use Rattle.pfc_check.proofs.state.State.main_cells.Given as goal

-- what is still to come completes it
abbrev pub invariant-loop-m : goal.invariant-loop-m
invariant-loop-m l =
    record {
      value : most (l.cells + sum_by (λ m. scope_cells (state_of l.self).forms (scope_at (state_of l.self).blocks.scopes m.scope))
          (drop l.m (state_of l.self).blocks.modules)) ≡ most (main_cells (state_of l.self));
      bound : l.cells ≤ 18446744073709551615;
    }
