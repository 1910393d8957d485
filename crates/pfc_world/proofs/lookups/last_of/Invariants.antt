use Rattle.pfc_state.specs.Stands.{ticket_at}
use Rattle.pfc_world.specs.Lists.{list_of}
use Rattle.pfc_world.proofs.InOrder.{IsBackward, aback}
use Rattle.pfc_world.proofs.lookups.last_of.Given as goal

abbrev pub invariant-loop-next : goal.invariant-loop-next
invariant-loop-next l = IsBackward l.fn.spread (ticket_at l.why) l.rows.rows (list_of l.fn.spread l.why) l.next

abbrev pub decreases-loop-next : goal.decreases-loop-next
decreases-loop-next l = aback l.rows.rows l.next
