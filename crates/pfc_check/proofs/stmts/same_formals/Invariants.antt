use Rattle.std.proofs.Common.{◌≡◌, drop}
use Rattle.pfc_types.specs.rules.Declarations.{same_formals}
use Rattle.pfc_check.proofs.stmts.same_formals.Given as goal

-- what is still to come completes it
abbrev pub invariant-loop-i : goal.invariant-loop-i
invariant-loop-i l =
    same_formals (drop l.i l.fs) (drop l.i l.gs) ≡ same_formals l.fs l.gs
