-- What calls that were answered with Ok leave.
use Rattle.std.proofs.Common.{ℤ, ◌∷◌, set}
use Rattle.pfc_stacks.specs.Stacks.{Stacks, stack_of}

-- main with one operand more
abbrev pub pushed : ℤ → Stacks → Stacks
pushed v stacks = set stacks 0 (record (stack_of stacks 0) { operands = v ∷ (stack_of stacks 0).operands })
