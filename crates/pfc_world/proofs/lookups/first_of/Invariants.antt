use Rattle.pfc_state.specs.Stands.{ticket_at}
use Rattle.pfc_world.specs.Lists.{list_of}
use Rattle.pfc_world.specs.Walks.{IsForward}
use Rattle.pfc_world.proofs.InOrder.{ahead}
use Rattle.pfc_world.proofs.lookups.first_of.Given as goal

abbrev pub invariant-loop-next : goal.invariant-loop-next
invariant-loop-next l = IsForward l.fn.spread (ticket_at l.why) l.rows.rows (list_of l.fn.spread l.why) l.next

abbrev pub decreases-loop-next : goal.decreases-loop-next
decreases-loop-next l = ahead l.rows.rows l.rows.done l.next
