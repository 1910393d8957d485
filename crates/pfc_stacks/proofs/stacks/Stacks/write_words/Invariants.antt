use Rattle.std.proofs.Common.{◌≡◌, take}
use Rattle.pfc_stacks.specs.Stacks.{written}
use Rattle.pfc_stacks.proofs.stacks.Stacks.write_words.Given as goal

-- the first words are written
abbrev pub invariant-loop-j : goal.invariant-loop-j
invariant-loop-j l = l.self ≡ written l.fn.self l.to (take l.j l.words)
