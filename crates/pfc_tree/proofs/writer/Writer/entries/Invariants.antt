-- What is written, with what is still to come, is what is to be written.
use Rattle.std.proofs.Common.{◌≡◌, ◌++◌, drop}
use Rattle.pfc_tree.specs.tokens.Parts.{entries_tokens}
use Rattle.pfc_tree.specs.Readings.{entries_shape}
use Rattle.pfc_tree.proofs.writer.Writer.entries.Given as goal

abbrev pub invariant-loop-n : goal.invariant-loop-n
invariant-loop-n l =
    l.self.kinds.items ++ entries_tokens (entries_shape (drop l.n-index l.entries)) ≡ l.initial.self.kinds.items ++ entries_tokens (entries_shape l.entries)
