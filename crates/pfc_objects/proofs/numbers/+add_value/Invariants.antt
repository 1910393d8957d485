-- The parts still to come complete the numbers.
use Rattle.std.proofs.Common.{◌≡◌, ◌++◌, drop}
use Rattle.pfc_semantics.specs.Values.{values_from}
use Rattle.pfc_store.specs.Views.{values_view}
use Rattle.pfc_translation.specs.Objects.{numbers_in}
use Rattle.pfc_objects.proofs.numbers.+add_value.Given as goal

abbrev pub invariant-loop-part : goal.invariant-loop-part
invariant-loop-part l =
    l.numbers.items ++ numbers_in (values_from (values_view (drop l.part-index l.part-items)))
    ≡ l.fn.numbers.items ++ numbers_in (values_from (values_view l.part-items))
