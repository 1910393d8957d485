-- What is written, with what is still to come, is what is to be written.
use Rattle.std.proofs.Common.{◌≡◌, ◌++◌, drop}
use Rattle.pfc_tree.specs.tokens.Types.{semicolon_groups_tokens}
use Rattle.pfc_tree.specs.Readings.{groups_shape}
use Rattle.pfc_tree.proofs.writer.Writer.formals.Given as goal

abbrev pub invariant-loop-g : goal.invariant-loop-g
invariant-loop-g l =
    l.self.kinds.items ++ semicolon_groups_tokens (groups_shape (drop l.g-index l.rest)) ≡ l.initial.self.kinds.items ++ semicolon_groups_tokens
    (groups_shape l.rest)
