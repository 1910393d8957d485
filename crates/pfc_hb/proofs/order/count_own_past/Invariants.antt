use Rattle.std.proofs.Common.{◌≡◌, ℕ, ◌<◌, ◌≤◌, true}
use Rattle.pfc_hb.specs.Order.{event_at}
use Rattle.pfc_hb.specs.Clocks.{Gathers, Has, reaches}
use Rattle.pfc_hb.proofs.order.count_own_past.Given as goal

abbrev pub invariant-loop-earlier : goal.invariant-loop-earlier
invariant-loop-earlier l = record {
  gathered : Gathers l.events l.slots.of_events.items l.slots.width l.place l.clock;
  so_far : (k : ℕ) → l.earlier ≤ k → k < l.place → reaches (event_at l.events k) (event_at l.events l.place) ≡ true → Has l.slots.of_events.items l.clock k;
}
