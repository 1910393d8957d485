-- What is written, with what is still to come, is what is to be written.
use Rattle.std.proofs.Common.{◌≡◌, ◌++◌, drop}
use Rattle.pfc_tree.specs.tokens.Parts.{exports_tokens}
use Rattle.pfc_tree.specs.Readings.{exports_shape}
use Rattle.pfc_tree.proofs.writer.Writer.exports.Given as goal

abbrev pub invariant-loop-names : goal.invariant-loop-names
invariant-loop-names l =
    l.self.kinds.items ++ exports_tokens (exports_shape (drop l.names-index l.exports)) ≡ l.initial.self.kinds.items ++ exports_tokens (exports_shape l.exports)
