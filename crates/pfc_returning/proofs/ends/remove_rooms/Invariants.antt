-- The variables of the activations that were gone through are gone.
use Rattle.std.proofs.Common.{◌≡◌, drop}
use Rattle.pfc_program.specs.declared.tables.Tables.{Tables}
use Rattle.pfc_store.specs.Views.{store_view}
use Rattle.pfc_semantics.specs.Processes.{without_all}
use Rattle.pfc_activities.specs.Views.{activations_view}
use Rattle.pfc_returning.proofs.ends.remove_rooms.Given as goal

abbrev pub invariant-loop-i : goal.invariant-loop-i
invariant-loop-i l = (t : Tables) → store_view l.store ≡ without_all (store_view l.fn.store) (activations_view t (drop l.i l.activations))
