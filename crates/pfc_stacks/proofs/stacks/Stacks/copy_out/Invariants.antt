use Rattle.std.proofs.Common.{◌≡◌, take, drop}
use Rattle.std.specs.Prelude.{reverse}
use Rattle.pfc_stacks.specs.Stacks.{stack_of, written}
use Rattle.pfc_stacks.proofs.stacks.Stacks.copy_out.Given as goal

-- the first words are written
abbrev pub invariant-loop-j : goal.invariant-loop-j
invariant-loop-j l = l.self ≡ written l.fn.self l.to (take l.j (reverse (take l.z (drop l.k (stack_of l.fn.self l.p).operands))))
