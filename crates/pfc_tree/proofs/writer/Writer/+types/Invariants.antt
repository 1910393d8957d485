-- What is written, with what is still to come, is what is to be written.
use Rattle.std.proofs.Common.{◌≡◌, ◌++◌, drop}
use Rattle.pfc_tree.specs.tokens.Types.{semicolon_fields_tokens}
use Rattle.pfc_tree.specs.Readings.{vars_shape}
use Rattle.pfc_tree.proofs.writer.Writer.+types.Given as goal

abbrev pub invariant-fields-loop-v : goal.invariant-fields-loop-v
invariant-fields-loop-v l =
    l.self.kinds.items ++ semicolon_fields_tokens (vars_shape (drop l.v-index l.rest)) ≡ l.initial.self.kinds.items ++ semicolon_fields_tokens
    (vars_shape l.rest)
