-- The scopes still to come complete the count.
use Rattle.std.proofs.Common.{◌≡◌, ◌+◌, ◌-◌, drop, take, length}
use Rattle.pfc_types.specs.Scopes.{scope_at}
use Rattle.pfc_semantics.specs.Layouts.{accepts_laid, process_layout}
use Rattle.pfc_select_code.proofs.cells.variables_up_to.Given as goal

abbrev pub invariant-loop-i : goal.invariant-loop-i
invariant-loop-i l =
    l.count + length (accepts_laid (take (l.to - l.i) (drop l.i l.scopes.scopes)))
    ≡ length (process_layout (scope_at l.scopes.scopes l.own) (take (l.to - l.from) (drop l.from l.scopes.scopes)))
