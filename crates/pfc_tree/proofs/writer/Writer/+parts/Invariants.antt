-- What is written, with what is still to come, is what is to be written.
use Rattle.std.proofs.Common.{◌≡◌, ◌++◌, drop}
use Rattle.pfc_tree.specs.tokens.Parts.{parts_tokens}
use Rattle.pfc_tree.specs.Readings.{parts_shape}
use Rattle.pfc_tree.proofs.writer.Writer.+parts.Given as goal

abbrev pub invariant-parts-loop-part : goal.invariant-parts-loop-part
invariant-parts-loop-part l =
    l.self.kinds.items ++ parts_tokens (parts_shape (drop l.part-index l.parts)) ≡ l.initial.self.kinds.items ++ parts_tokens (parts_shape l.parts)
