use Rattle.std.proofs.Common.{◌≡◌, length}
use Rattle.pfc_hb.specs.Clocks.{AreClocks}
use Rattle.pfc_hb.specs.Lasts.{TellLasts}
use Rattle.pfc_hb.proofs.order.clocks_of.Given as goal

abbrev pub invariant-loop-place : goal.invariant-loop-place
invariant-loop-place l = record {
  each : length l.clocks.items ≡ l.place;
  clocks : AreClocks l.events l.slots.of_events.items l.slots.width l.place l.clocks.items;
  lasts : TellLasts l.events l.place l.lasts.places.entries;
}
