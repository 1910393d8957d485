use Rattle.std.proofs.Common.{◌≡◌, ◌++◌, take, drop}
use Rattle.std.specs.Prelude.{reverse}
use Rattle.pfc_stacks.specs.Effects.{passed}
use Rattle.pfc_stacks.specs.Stacks.{stack_of, cells_at}
use Rattle.pfc_stacks.proofs.stacks.Stacks.load_all.Given as goal

-- the first cells are pushed
abbrev pub invariant-loop-j : goal.invariant-loop-j
invariant-loop-j l = l.self ≡ passed l.fn.self l.p (reverse (take l.j (cells_at l.fn.self l.from l.z)) ++ drop 1 (stack_of l.fn.self l.p).operands)
