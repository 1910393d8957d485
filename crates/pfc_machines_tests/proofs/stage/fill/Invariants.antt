use Rattle.std.proofs.Common.{◌≡◌, ◌<◌, length}
use Rattle.pfc_stacks.specs.Stacks.{stack_of, operands_of}
use Rattle.pfc_machines_tests.proofs.stage.fill.Given as goal

-- one operand a turn, in the same room
abbrev pub invariant-loop-n : goal.invariant-loop-n
invariant-loop-n l =
    (l.p < length l.stacks) × (length (operands_of l.stacks l.p) ≡ l.n) × ((stack_of l.stacks l.p).room ≡ (stack_of l.fn.stacks l.p).room)
