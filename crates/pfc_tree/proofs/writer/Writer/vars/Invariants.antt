-- What is written, with what is still to come, is what is to be written.
use Rattle.std.proofs.Common.{◌≡◌, ◌++◌, drop}
use Rattle.pfc_tree.specs.tokens.Types.{vars_tokens}
use Rattle.pfc_tree.specs.Readings.{vars_shape}
use Rattle.pfc_tree.proofs.writer.Writer.vars.Given as goal

abbrev pub invariant-loop-v : goal.invariant-loop-v
invariant-loop-v l =
    l.self.kinds.items ++ vars_tokens (vars_shape (drop l.v-index l.vs)) ≡ l.initial.self.kinds.items ++ vars_tokens (vars_shape l.vs)
