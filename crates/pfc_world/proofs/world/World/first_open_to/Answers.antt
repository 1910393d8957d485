use Rattle.std.proofs.Common.{Some, ap, ◌∙◌}
use Rattle.pfc_world.proofs.Open.{looked}
use Rattle.pfc_world.proofs.world.World.first_open_to.Goals as goal

pub returns-in-Some-Some-clause-partner : goal.returns-in-Some-Some-clause-partner
returns-in-Some-Some-clause-partner c =
    ap (λ x. Some x) c.earlier.ensures
    ∙ looked _ _ _ _ _ _ _ c.in-Some-Some.is-0 c.in-Some-Some.is-1 c.wait_in_a_statement.ensures c.done-done.ensures.tickets.apart
    c.first_at-waiter.ensures.found c.first_offer.ensures.offer c.first_offer.ensures.found

pub returns-in-Some-None-clause-partner : goal.returns-in-Some-None-clause-partner
returns-in-Some-None-clause-partner c =
    ap (λ x. Some x) c.in_a_statement.ensures
    ∙ looked _ _ _ _ _ _ _ c.in-Some-None.is-0 c.in-Some-None.is-1 c.wait_in_a_statement.ensures c.done-done.ensures.tickets.apart
    c.first_at-waiter.ensures.found c.first_offer.ensures.offer c.first_offer.ensures.found

pub returns-in-None-Some-clause-partner : goal.returns-in-None-Some-clause-partner
returns-in-None-Some-clause-partner c =
    ap (λ x. Some x) c.in_a_select.ensures
    ∙ looked _ _ _ _ _ _ _ c.in-None-Some.is-0 c.in-None-Some.is-1 c.wait_in_a_statement.ensures c.done-done.ensures.tickets.apart
    c.first_at-waiter.ensures.found c.first_offer.ensures.offer c.first_offer.ensures.found

pub returns-in-None-None-clause-partner : goal.returns-in-None-None-clause-partner
returns-in-None-None-clause-partner c =
    looked _ _ _ _ _ _ _ c.in-None-None.is-0 c.in-None-None.is-1 c.wait_in_a_statement.ensures c.done-done.ensures.tickets.apart c.first_at-waiter.ensures.found
    c.first_offer.ensures.offer c.first_offer.ensures.found
