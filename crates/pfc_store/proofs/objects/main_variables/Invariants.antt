-- The variables so far, and behind them those of the names that are left.
use Rattle.std.proofs.Common.{◌≡◌, drop}
use Rattle.pfc_semantics.specs.Objects.{all_numberings, numbered_main, main_objects}
use Rattle.pfc_store.specs.Views.{values_view}
use Rattle.pfc_store.specs.Numbered.{objects_view, behind}
use Rattle.pfc_store.proofs.objects.main_variables.Given as goal

abbrev pub invariant-loop-k : goal.invariant-loop-k
invariant-loop-k l =
    behind (values_view l.values.items) (numbered_main l.scopes (all_numberings l.types) (drop l.k l.names)
    (objects_view l.objects)) ≡ main_objects l.types l.scopes
