-- Objects as actions find them: by number, among the operands of the process that acts.
use Rattle.std.specs.Prelude.{ℕ}
use Rattle.pfc_stacks.specs.Refs.{number_of}
use Rattle.pfc_stacks.specs.Stacks.{operand, operands_of}
use Rattle.pfc_machines.specs.declared.machine.Machine.{Machine}

-- the number of the object at a depth, the top at 0
abbrev pub object_at : ℕ → ℕ → Machine → ℕ
object_at k p m = number_of (operand (operands_of m.stacks p) k)
