-- What is written, with what is still to come, is what is to be written.
use Rattle.std.proofs.Common.{◌≡◌, ◌++◌, drop}
use Rattle.pfc_tree.specs.forget.Types.{bare}
use Rattle.pfc_tree.specs.tokens.Types.{comma_names_tokens}
use Rattle.pfc_tree.proofs.writer.Writer.comma_names.Given as goal

abbrev pub invariant-loop-x : goal.invariant-loop-x
invariant-loop-x l =
    l.self.kinds.items ++ comma_names_tokens (bare (drop l.x-index l.names)) ≡ l.initial.self.kinds.items ++ comma_names_tokens (bare l.names)
