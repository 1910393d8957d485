-- The values still to come complete the numbers.
use Rattle.std.proofs.Common.{◌≡◌, ◌++◌, drop}
use Rattle.pfc_store.specs.Views.{values_view}
use Rattle.pfc_translation.specs.Objects.{main_numbers}
use Rattle.pfc_objects.proofs.numbers.numbers.Given as goal

abbrev pub invariant-loop-value : goal.invariant-loop-value
invariant-loop-value l = l.numbers.items ++ main_numbers (values_view (drop l.value-index l.values)) ≡ main_numbers (values_view l.values)
