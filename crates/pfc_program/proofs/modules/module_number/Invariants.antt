-- The modules still to come complete the count.
use Rattle.std.proofs.Common.{◌≡◌, ◌+◌, ◌≤◌, drop, take}
use Rattle.pfc_semantics.specs.Objects.{of_kind}
use Rattle.pfc_program.proofs.modules.module_number.Given as goal

abbrev pub invariant-loop-k : goal.invariant-loop-k
invariant-loop-k l =
    (l.before ≤ l.k)
    × (l.before + of_kind l.resource (drop l.k (take l.n l.scopes.modules)) ≡ of_kind l.resource (take l.n l.scopes.modules))
