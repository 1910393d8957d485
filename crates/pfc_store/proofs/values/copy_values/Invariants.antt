-- The copies so far are seen as the values that were gone through.
use Rattle.std.proofs.Common.{◌≡◌, take}
use Rattle.pfc_store.specs.Views.{values_view}
use Rattle.pfc_store.proofs.values.copy_values.Given as goal

abbrev pub invariant-loop-value : goal.invariant-loop-value
invariant-loop-value l = values_view l.copies.items ≡ values_view (take l.value-index l.values)
