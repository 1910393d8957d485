-- The steps so far are those that were gone through.
use Rattle.std.proofs.Common.{◌≡◌, take}
use Rattle.pfc_store.specs.Views.{selectors_view}
use Rattle.pfc_races.specs.Seen.{path_seen}
use Rattle.pfc_events.proofs.places.path_of.Given as goal

abbrev pub invariant-loop-step : goal.invariant-loop-step
invariant-loop-step l = l.path.items ≡ path_seen (selectors_view (take l.step-index l.steps))
