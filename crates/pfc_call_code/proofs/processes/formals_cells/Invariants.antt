-- The parameters still to come complete the sum.
use Rattle.std.proofs.Common.{◌≡◌, ◌+◌, drop}
use Rattle.pfc_translation.specs.Calls.{formals_cells}
use Rattle.pfc_call_code.proofs.processes.formals_cells.Given as goal

abbrev pub invariant-loop-f : goal.invariant-loop-f
invariant-loop-f l = l.sum + formals_cells l.types (drop l.f-index l.formals) ≡ formals_cells l.types l.formals
