-- The steps that are left lead from the part at hand to the part that all of them lead to.
use Rattle.std.proofs.Common.{◌≡◌, drop}
use Rattle.pfc_semantics.specs.Values.{part, path_of}
use Rattle.pfc_store.specs.Views.{selectors_view, value_view}
use Rattle.pfc_store.proofs.parts.part_at.Given as goal

abbrev pub invariant-loop-step : goal.invariant-loop-step
invariant-loop-step l = part (path_of (selectors_view (drop l.step-index l.steps))) (value_view l.at) ≡ part
    (path_of (selectors_view l.fn.steps)) (value_view l.fn.whole)
