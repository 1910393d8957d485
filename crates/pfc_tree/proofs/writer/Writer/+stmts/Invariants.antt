-- Each loop: what is written, with what is still to come, is what is to be written.
use Rattle.std.proofs.Common.{◌≡◌, ◌++◌, drop}
use Rattle.pfc_tree.specs.tokens.Stmts.{semicolon_stmts_tokens, semicolon_arms_tokens, or_alts_tokens}
use Rattle.pfc_tree.specs.Readings.{stmts_shape, arms_shape, alts_shape}
use Rattle.pfc_tree.proofs.writer.Writer.+stmts.Given as goal

abbrev pub invariant-alt-loop-s : goal.invariant-alt-loop-s
invariant-alt-loop-s l =
    l.self.kinds.items ++ semicolon_stmts_tokens (stmts_shape (drop l.s-index l.s-items)) ≡ l.initial.self.kinds.items ++ semicolon_stmts_tokens
    (stmts_shape l.s-items)

abbrev pub invariant-alts-loop-a : goal.invariant-alts-loop-a
invariant-alts-loop-a l =
    l.self.kinds.items ++ or_alts_tokens (alts_shape (drop l.a-index l.rest)) ≡ l.initial.self.kinds.items ++ or_alts_tokens (alts_shape l.rest)

abbrev pub invariant-arms-loop-a : goal.invariant-arms-loop-a
invariant-arms-loop-a l =
    l.self.kinds.items ++ semicolon_arms_tokens (arms_shape (drop l.a-index l.rest)) ≡ l.initial.self.kinds.items ++ semicolon_arms_tokens (arms_shape l.rest)

abbrev pub invariant-stmts-loop-s : goal.invariant-stmts-loop-s
invariant-stmts-loop-s l =
    l.self.kinds.items ++ semicolon_stmts_tokens (stmts_shape (drop l.s-index l.rest)) ≡ l.initial.self.kinds.items ++ semicolon_stmts_tokens
    (stmts_shape l.rest)
