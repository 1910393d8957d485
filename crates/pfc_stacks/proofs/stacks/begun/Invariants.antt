use Rattle.std.proofs.Common.{◌≡◌, ◌-◌, ◌∷◌}
use Rattle.std.specs.Prelude.{replicate}
use Rattle.pfc_stacks.specs.Stacks.{idle_stack}
use Rattle.pfc_stacks.proofs.stacks.begun.Given as goal

abbrev pub invariant-loop : goal.invariant-loop
invariant-loop l = l.stacks.items ≡ l.fn.main ∷ replicate (l.counter - 1) (idle_stack l.spare)
