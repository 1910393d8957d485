-- The processes so far are those that were gone through.
use Rattle.std.proofs.Common.{◌≡◌, map, take}
use Rattle.pfc_state.specs.Stands.{is_ready}
use Rattle.pfc_events.proofs.wakes.ready_in.Given as goal

abbrev pub invariant-loop-p : goal.invariant-loop-p
invariant-loop-p l = l.ready.items ≡ map is_ready (take l.p l.world.rows)
