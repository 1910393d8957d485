use Rattle.std.proofs.Common.{◌<◌, Some, sym, ◌∙◌, subst}
use Rattle.std.specs.Prelude.{MatchOption}
use Rattle.pfc_links.specs.Members.{IsEmpty, IsFirst}
use Rattle.pfc_world.specs.Firsts.{IsNobody}
use Rattle.pfc_state.specs.Stands.{ticket_at}
use Rattle.pfc_world.specs.Lists.{list_of}
use Rattle.pfc_world.specs.Walks.{IsForward, IsFrontier}
use Rattle.pfc_world.proofs.Finding.{at-gives, first-found}
use Rattle.pfc_world.proofs.FirstIs.{first-none}
use Rattle.pfc_world.proofs.InOrder.{ahead, why-listed, same-member, forward-starts, forward-steps, forward-found, forward-nearer}
use Rattle.pfc_world.proofs.lookups.first_of.Goals as goal

pub loop-next-init : goal.loop-next-init
loop-next-init c =
    forward-starts c.args.spread (ticket_at c.args.why) c.args.rows.now.rows (list_of c.args.spread c.args.why) c.args.waits.now c.first-next.result
    (why-listed c.args.spread c.args.why) c.requires
    (subst (λ n. MatchOption c.first-next.result (IsEmpty c.args.waits.now.members n) (IsFirst c.args.waits.now.members n))
    c.list_of.ensures.list c.first-next.ensures)

pub returns-then-waits_at-clause-first : goal.returns-then-waits_at-clause-first
returns-then-waits_at-clause-first c =
    let h : IsFrontier c.args.spread (ticket_at c.args.why) c.args.rows.now.rows (list_of c.args.spread c.args.why) c.in-Some.p =
    subst (λ o. IsForward c.args.spread (ticket_at c.args.why) c.args.rows.now.rows (list_of c.args.spread c.args.why) o) c.in-Some.is c.loop-next.invariant in
    first-found (ticket_at c.args.why) c.args.rows.now.rows (Some c.in-Some.p) (at-gives c.args.why) c.done-done.ensures.tickets.apart
    (forward-found c.args.spread (ticket_at c.args.why) c.args.rows.now.rows (list_of c.args.spread c.args.why) c.in-Some.p (at-gives c.args.why) h
    (sym c.waits_at.ensures ∙ c.if-waits_at.true))

pub loop-next-smaller : goal.loop-next-smaller
loop-next-smaller c =
    let h : IsFrontier c.args.spread (ticket_at c.args.why) c.args.rows.now.rows (list_of c.args.spread c.args.why) c.in-Some.p =
    subst (λ o. IsForward c.args.spread (ticket_at c.args.why) c.args.rows.now.rows (list_of c.args.spread c.args.why) o) c.in-Some.is c.loop-next.invariant in
    subst (λ o. ahead c.args.rows.now.rows c.args.rows.now.done c.next-next.result < ahead c.args.rows.now.rows c.args.rows.now.done o) (sym c.in-Some.is)
    (forward-nearer c.args.spread (ticket_at c.args.why) c.args.rows.now.rows
    (list_of c.args.spread c.args.why) c.in-Some.p c.args.rows.now.done c.args.waits.now c.next-next.result c.done-done.ensures.tickets c.requires h
    (c.next-next.ensures (list_of c.args.spread c.args.why) h.ticket (same-member c.args.spread c.args.rows.now.rows c.args.waits.now c.in-Some.p c.requires ∙
    h.own)))

pub loop-next-preserved : goal.loop-next-preserved
loop-next-preserved c =
    let h : IsFrontier c.args.spread (ticket_at c.args.why) c.args.rows.now.rows (list_of c.args.spread c.args.why) c.in-Some.p =
    subst (λ o. IsForward c.args.spread (ticket_at c.args.why) c.args.rows.now.rows (list_of c.args.spread c.args.why) o) c.in-Some.is c.loop-next.invariant in
    forward-steps c.args.spread (ticket_at c.args.why) c.args.rows.now.rows (list_of c.args.spread c.args.why) c.in-Some.p c.args.waits.now c.next-next.result
    (at-gives c.args.why) (why-listed c.args.spread c.args.why)
    c.done-done.ensures.tickets.apart c.requires h (sym c.waits_at.ensures ∙ c.if-waits_at.false)
    (c.next-next.ensures (list_of c.args.spread c.args.why) h.ticket (same-member c.args.spread c.args.rows.now.rows c.args.waits.now c.in-Some.p c.requires ∙
    h.own))

pub returns-clause-first : goal.returns-clause-first
returns-clause-first c =
    let none : IsNobody (ticket_at c.args.why) c.args.rows.now.rows =
    subst (λ o. IsForward c.args.spread (ticket_at c.args.why) c.args.rows.now.rows (list_of c.args.spread c.args.why) o)
    c.in_default.is c.loop-next.invariant in
    sym (first-none (ticket_at c.args.why) c.args.rows.now.rows none)
