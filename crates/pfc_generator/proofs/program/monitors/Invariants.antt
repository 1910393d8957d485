-- The modules still to come complete the count.
use Rattle.std.proofs.Common.{◌≡◌, ◌+◌, ◌≤◌, false, drop}
use Rattle.pfc_semantics.specs.Objects.{of_kind}
use Rattle.pfc_generator.proofs.program.monitors.Given as goal

abbrev pub invariant-loop-n : goal.invariant-loop-n
invariant-loop-n l = (l.count + of_kind false (drop l.n l.scopes.modules) ≡ of_kind false l.scopes.modules) × (l.count ≤ l.n)
