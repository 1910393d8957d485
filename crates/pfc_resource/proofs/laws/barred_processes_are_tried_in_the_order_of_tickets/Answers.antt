use Rattle.pfc_state.specs.Stands.{ticket_barred}
use Rattle.pfc_world.proofs.FirstIs.{first-is, first-none}
use Rattle.pfc_resource.proofs.KeptInOrder.{barred-gives, rises}
use Rattle.pfc_resource.proofs.laws.barred_processes_are_tried_in_the_order_of_tickets.Goals as goal

pub returns-clause-next : goal.returns-clause-next
returns-clause-next c = λ rows g q after apart h. first-is (ticket_barred g after) rows q (barred-gives g after) apart h

pub returns-clause-none : goal.returns-clause-none
returns-clause-none c = λ rows g after none. first-none (ticket_barred g after) rows none

pub returns-clause-rises : goal.returns-clause-rises
returns-clause-rises c = rises
