use Rattle.std.proofs.Common.{◌≡◌, ◌++◌, take}
use Rattle.std.specs.Prelude.{reverse}
use Rattle.pfc_stacks.proofs.Writes.{words_at}
use Rattle.pfc_stacks.specs.Stacks.{operands_of}
use Rattle.pfc_machines.proofs.communications.Communications.keep_message.Given as goal

-- the deepest words are kept
abbrev pub invariant-loop-j : goal.invariant-loop-j
invariant-loop-j l = l.self ≡ record l.fn.self { words = reverse (take l.j (words_at (operands_of l.stacks l.p) 0 l.z)) ++ l.fn.self.words }
