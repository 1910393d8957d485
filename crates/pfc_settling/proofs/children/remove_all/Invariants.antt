-- Those before this place are still to go.
use Rattle.std.proofs.Common.{◌≡◌, take}
use Rattle.pfc_program.specs.declared.tables.Tables.{Tables}
use Rattle.pfc_store.specs.Views.{store_view}
use Rattle.pfc_semantics.specs.Processes.{without_all}
use Rattle.pfc_activities.specs.Views.{activations_view}
use Rattle.pfc_settling.proofs.children.remove_all.Given as goal

abbrev pub invariant-loop-i : goal.invariant-loop-i
invariant-loop-i l =
    (t : Tables) → without_all (store_view l.store) (activations_view t (take l.i l.activations)) ≡ without_all
    (store_view l.fn.store) (activations_view t l.activations)
