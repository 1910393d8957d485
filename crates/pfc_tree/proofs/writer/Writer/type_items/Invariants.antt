-- What is written, with what is still to come, is what is to be written.
use Rattle.std.proofs.Common.{◌≡◌, ◌++◌, drop}
use Rattle.pfc_tree.specs.tokens.Types.{type_items_tokens}
use Rattle.pfc_tree.specs.Readings.{type_items_shape}
use Rattle.pfc_tree.proofs.writer.Writer.type_items.Given as goal

abbrev pub invariant-loop-i : goal.invariant-loop-i
invariant-loop-i l =
    l.self.kinds.items ++ type_items_tokens (type_items_shape (drop l.i-index l.items)) ≡
    l.initial.self.kinds.items ++ type_items_tokens (type_items_shape l.items)
