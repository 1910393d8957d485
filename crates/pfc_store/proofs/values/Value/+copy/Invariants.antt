-- The copies so far are seen as the parts that were gone through.
use Rattle.std.proofs.Common.{◌≡◌, take}
use Rattle.pfc_store.specs.Views.{values_view}
use Rattle.pfc_store.proofs.values.Value.+copy.Given as goal

abbrev pub invariant-loop-part : goal.invariant-loop-part
invariant-loop-part l = values_view l.copies.items ≡ values_view (take l.part-index l.part-items)
