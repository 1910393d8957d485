use Rattle.std.proofs.Common.{◌≡◌, ℕ, ◌<◌, true, get_or}
use Rattle.pfc_hb.specs.declared.objects.Thing.TheVariants.{Semaphore}
use Rattle.pfc_hb.specs.Order.{event_at}
use Rattle.pfc_hb.specs.Clocks.{Gathers, Has, Keeps, has_thing}
use Rattle.pfc_hb.proofs.order.count_objects.Given as goal

abbrev pub invariant-loop-thing : goal.invariant-loop-thing
invariant-loop-thing l = record {
  gathered : Gathers l.events l.slots.of_events.items l.slots.width l.place l.clock;
  kept : Keeps l.slots.of_events.items l.initial.clock l.clock;
  so_far : (m : ℕ) → m < l.thing-index → (k : ℕ) → k < l.place →
      has_thing (get_or l.thing-items m (Semaphore 0)) (event_at l.events k) ≡ true → Has l.slots.of_events.items l.clock k;
}
