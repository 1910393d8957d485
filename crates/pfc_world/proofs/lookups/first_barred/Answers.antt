use Rattle.std.proofs.Common.{◌<◌, Some, sym, ◌∙◌, subst}
use Rattle.pfc_world.specs.Firsts.{IsNobody}
use Rattle.pfc_state.specs.Stands.{ticket_barred}
use Rattle.pfc_world.specs.Lists.{list_at}
use Rattle.pfc_world.specs.Walks.{IsForward, IsFrontier}
use Rattle.pfc_world.proofs.Finding.{barred-give, first-found}
use Rattle.pfc_world.proofs.FirstIs.{first-none}
use Rattle.pfc_world.proofs.Barring.{barred-listed}
use Rattle.pfc_world.proofs.InOrder.{ahead, same-member, forward-steps, forward-found, forward-nearer}
use Rattle.pfc_world.proofs.lookups.first_barred.Goals as goal

pub loop-next-init : goal.loop-next-init
loop-next-init c = c.first_behind-next.ensures

pub returns-then-is_barred-clause-first : goal.returns-then-is_barred-clause-first
returns-then-is_barred-clause-first c =
    let h : IsFrontier c.args.spread (ticket_barred c.args.resource c.args.after) c.args.rows.now.rows (list_at c.args.spread 12 c.args.resource) c.in-Some.p =
    subst (λ o. IsForward c.args.spread (ticket_barred c.args.resource c.args.after) c.args.rows.now.rows
    (list_at c.args.spread 12 c.args.resource) o) c.in-Some.is c.loop-next.invariant in
    first-found (ticket_barred c.args.resource c.args.after) c.args.rows.now.rows (Some c.in-Some.p)
    (barred-give c.args.resource c.args.after) c.done-done.ensures.tickets.apart
    (forward-found c.args.spread (ticket_barred c.args.resource c.args.after) c.args.rows.now.rows
    (list_at c.args.spread 12 c.args.resource) c.in-Some.p (barred-give c.args.resource c.args.after) h
    (sym c.is_barred.ensures ∙ c.if-is_barred.true))

pub loop-next-smaller : goal.loop-next-smaller
loop-next-smaller c =
    let h : IsFrontier c.args.spread (ticket_barred c.args.resource c.args.after) c.args.rows.now.rows (list_at c.args.spread 12 c.args.resource) c.in-Some.p =
    subst (λ o. IsForward c.args.spread (ticket_barred c.args.resource c.args.after) c.args.rows.now.rows
    (list_at c.args.spread 12 c.args.resource) o) c.in-Some.is c.loop-next.invariant in
    subst (λ o. ahead c.args.rows.now.rows c.args.rows.now.done c.next-next.result < ahead c.args.rows.now.rows c.args.rows.now.done o) (sym c.in-Some.is)
    (forward-nearer c.args.spread (ticket_barred c.args.resource c.args.after) c.args.rows.now.rows
    (list_at c.args.spread 12 c.args.resource) c.in-Some.p c.args.rows.now.done c.args.waits.now c.next-next.result c.done-done.ensures.tickets c.requires h
    (c.next-next.ensures (list_at c.args.spread 12 c.args.resource) h.ticket
    (same-member c.args.spread c.args.rows.now.rows c.args.waits.now c.in-Some.p c.requires ∙
    h.own)))

pub loop-next-preserved : goal.loop-next-preserved
loop-next-preserved c =
    let h : IsFrontier c.args.spread (ticket_barred c.args.resource c.args.after) c.args.rows.now.rows (list_at c.args.spread 12 c.args.resource) c.in-Some.p =
    subst (λ o. IsForward c.args.spread (ticket_barred c.args.resource c.args.after) c.args.rows.now.rows
    (list_at c.args.spread 12 c.args.resource) o) c.in-Some.is c.loop-next.invariant in
    forward-steps c.args.spread (ticket_barred c.args.resource c.args.after) c.args.rows.now.rows
    (list_at c.args.spread 12 c.args.resource) c.in-Some.p c.args.waits.now c.next-next.result
    (barred-give c.args.resource c.args.after) (barred-listed c.args.spread c.args.resource c.args.after)
    c.done-done.ensures.tickets.apart c.requires h (sym c.is_barred.ensures ∙ c.if-is_barred.false)
    (c.next-next.ensures (list_at c.args.spread 12 c.args.resource) h.ticket
    (same-member c.args.spread c.args.rows.now.rows c.args.waits.now c.in-Some.p c.requires ∙
    h.own))

pub returns-clause-first : goal.returns-clause-first
returns-clause-first c =
    let none : IsNobody (ticket_barred c.args.resource c.args.after) c.args.rows.now.rows =
    subst (λ o. IsForward c.args.spread (ticket_barred c.args.resource c.args.after) c.args.rows.now.rows (list_at c.args.spread 12 c.args.resource) o)
    c.in_default.is c.loop-next.invariant in
    sym (first-none (ticket_barred c.args.resource c.args.after) c.args.rows.now.rows none)
