-- What is written, with what is still to come, is what is to be written.
use Rattle.std.proofs.Common.{◌≡◌, ◌++◌, drop, map}
use Rattle.pfc_tree.specs.forget.Types.{forget_constant}
use Rattle.pfc_tree.specs.tokens.Types.{comma_constants_tokens}
use Rattle.pfc_tree.proofs.writer.Writer.constants.Given as goal

abbrev pub invariant-loop-c : goal.invariant-loop-c
invariant-loop-c l =
    l.self.kinds.items ++ comma_constants_tokens (map forget_constant (drop l.c-index l.rest)) ≡ l.initial.self.kinds.items ++ comma_constants_tokens
    (map forget_constant l.rest)
