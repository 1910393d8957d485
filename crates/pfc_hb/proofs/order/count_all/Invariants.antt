use Rattle.std.proofs.Common.{ℕ, ◌<◌, ◌≤◌}
use Rattle.pfc_hb.specs.Clocks.{Gathers, Has, Keeps}
use Rattle.pfc_hb.proofs.order.count_all.Given as goal

abbrev pub invariant-loop-earlier : goal.invariant-loop-earlier
invariant-loop-earlier l = record {
  gathered : Gathers l.events l.slots.of_events.items l.slots.width l.place l.clock;
  kept : Keeps l.slots.of_events.items l.initial.clock l.clock;
  so_far : (k : ℕ) → l.earlier ≤ k → k < l.place → Has l.slots.of_events.items l.clock k;
}
