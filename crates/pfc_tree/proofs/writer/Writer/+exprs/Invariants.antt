-- Each loop: what is written, with what is still to come, is what is to be written.
use Rattle.std.proofs.Common.{◌≡◌, ◌++◌, drop}
use Rattle.pfc_tree.specs.tokens.Exprs.{summands_tokens, multipliers_tokens, selectors_tokens, comma_exprs_tokens, comma_actuals_tokens}
use Rattle.pfc_tree.specs.Readings.{summands_shape, multipliers_shape, selectors_shape, exprs_shape, actuals_shape}
use Rattle.pfc_tree.proofs.writer.Writer.+exprs.Given as goal

abbrev pub invariant-actuals-loop-a : goal.invariant-actuals-loop-a
invariant-actuals-loop-a l =
    l.self.kinds.items ++ comma_actuals_tokens (actuals_shape (drop l.a-index l.rest)) ≡ l.initial.self.kinds.items ++ comma_actuals_tokens
    (actuals_shape l.rest)

abbrev pub invariant-desig-loop-s : goal.invariant-desig-loop-s
invariant-desig-loop-s l =
    l.self.kinds.items ++ selectors_tokens (selectors_shape (drop l.s-index l.s-items)) ≡
    l.initial.self.kinds.items ++ selectors_tokens (selectors_shape l.s-items)

abbrev pub invariant-exprs-loop-e : goal.invariant-exprs-loop-e
invariant-exprs-loop-e l =
    l.self.kinds.items ++ comma_exprs_tokens (exprs_shape (drop l.e-index l.rest)) ≡ l.initial.self.kinds.items ++ comma_exprs_tokens (exprs_shape l.rest)

abbrev pub invariant-simple-loop-op : goal.invariant-simple-loop-op
invariant-simple-loop-op l =
    l.self.kinds.items ++ summands_tokens (summands_shape (drop l.op-index l.op-items)) ≡
    l.initial.self.kinds.items ++ summands_tokens (summands_shape l.op-items)

abbrev pub invariant-term-loop-op : goal.invariant-term-loop-op
invariant-term-loop-op l =
    l.self.kinds.items ++ multipliers_tokens (multipliers_shape (drop l.op-index l.op-items)) ≡
    l.initial.self.kinds.items ++ multipliers_tokens (multipliers_shape l.op-items)
