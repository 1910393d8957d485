-- What is written, with what is still to come, is what is to be written.
use Rattle.std.proofs.Common.{◌≡◌, ◌++◌, drop, map}
use Rattle.pfc_tree.specs.forget.Types.{forget_const_item}
use Rattle.pfc_tree.specs.tokens.Types.{const_items_tokens}
use Rattle.pfc_tree.proofs.writer.Writer.const_items.Given as goal

abbrev pub invariant-loop-i : goal.invariant-loop-i
invariant-loop-i l =
    l.self.kinds.items ++ const_items_tokens (map forget_const_item (drop l.i-index l.items)) ≡
    l.initial.self.kinds.items ++ const_items_tokens (map forget_const_item l.items)
