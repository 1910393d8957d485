use Rattle.pfc_state.specs.Stands.{ticket_barred}
use Rattle.pfc_world.specs.Lists.{list_at}
use Rattle.pfc_world.specs.Walks.{IsForward}
use Rattle.pfc_world.proofs.InOrder.{ahead}
use Rattle.pfc_world.proofs.lookups.first_barred.Given as goal

abbrev pub invariant-loop-next : goal.invariant-loop-next
invariant-loop-next l = IsForward l.fn.spread (ticket_barred l.resource l.after) l.rows.rows (list_at l.fn.spread 12 l.resource) l.next

abbrev pub decreases-loop-next : goal.decreases-loop-next
decreases-loop-next l = ahead l.rows.rows l.rows.done l.next
