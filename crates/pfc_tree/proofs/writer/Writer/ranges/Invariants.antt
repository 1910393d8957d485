-- What is written, with what is still to come, is what is to be written.
use Rattle.std.proofs.Common.{◌≡◌, ◌++◌, drop, map}
use Rattle.pfc_tree.specs.forget.Types.{forget_range}
use Rattle.pfc_tree.specs.tokens.Types.{comma_ranges_tokens}
use Rattle.pfc_tree.proofs.writer.Writer.ranges.Given as goal

abbrev pub invariant-loop-r : goal.invariant-loop-r
invariant-loop-r l =
    l.self.kinds.items ++ comma_ranges_tokens (map forget_range (drop l.r-index l.rest)) ≡
    l.initial.self.kinds.items ++ comma_ranges_tokens (map forget_range l.rest)
