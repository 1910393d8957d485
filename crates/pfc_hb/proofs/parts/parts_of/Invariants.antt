use Rattle.std.proofs.Common.{ℕ, ◌<◌}
use Rattle.pfc_hb.specs.Order.{event_at}
use Rattle.pfc_hb.specs.Parts.{AllAreKnown}
use Rattle.pfc_hb.proofs.parts.parts_of.Given as goal

abbrev pub invariant-loop-event : goal.invariant-loop-event
invariant-loop-event l = (j : ℕ) → j < l.event-index → AllAreKnown (event_at l.events j).accesses l.parts.keys
