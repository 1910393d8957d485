use Rattle.std.proofs.Common.{◌≡◌, ℕ, ◌<◌, length, get_or}
use Rattle.pfc_hb.specs.Order.{event_at}
use Rattle.pfc_hb.proofs.slots.slots_of.Given as goal

abbrev pub invariant-loop-event : goal.invariant-loop-event
invariant-loop-event l = record {
  each : length l.of_events.items ≡ l.event-index;
  within : (k : ℕ) → k < l.event-index → get_or l.of_events.items k 0 < length l.processes.items;
  found : (k : ℕ) → k < l.event-index → get_or l.processes.items (get_or l.of_events.items k 0) 0 ≡ (event_at l.events k).process;
}
