use Rattle.pfc_world.proofs.Offerers.{IsWalk, distance}
use Rattle.pfc_world.proofs.lookups.first_offering.Given as goal

abbrev pub invariant-loop-next : goal.invariant-loop-next
invariant-loop-next l = IsWalk l.arm l.rows.rows l.offers l.next

abbrev pub decreases-loop-next : goal.decreases-loop-next
decreases-loop-next l = distance l.offers l.rows.done l.next
