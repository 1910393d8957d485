-- Behind the writes so far come those of the parameters that are left.
use Rattle.std.proofs.Common.{◌≡◌, ◌++◌, drop}
use Rattle.pfc_store.specs.Frames.{frame_view}
use Rattle.pfc_store.specs.Views.{values_view}
use Rattle.pfc_events.specs.Held.{parameters_of}
use Rattle.pfc_events.proofs.places.parameter_writes.Given as goal

abbrev pub invariant-loop-i : goal.invariant-loop-i
invariant-loop-i l =
    l.writes.items ++ parameters_of (frame_view l.frame) l.i (values_view (drop l.i l.values)) ≡ parameters_of (frame_view l.frame) 0 (values_view l.values)
