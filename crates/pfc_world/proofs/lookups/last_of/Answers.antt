use Rattle.std.proofs.Common.{◌<◌, Some, sym, ◌∙◌, subst}
use Rattle.std.specs.Prelude.{MatchOption}
use Rattle.pfc_links.specs.Members.{IsEmpty, IsLast}
use Rattle.pfc_world.specs.Firsts.{IsNobody}
use Rattle.pfc_state.specs.Stands.{ticket_at}
use Rattle.pfc_world.specs.Lists.{list_of}
use Rattle.pfc_world.proofs.Finding.{at-gives, last-found}
use Rattle.pfc_world.proofs.FirstIs.{last-none}
use Rattle.pfc_world.proofs.InOrder.{IsBackward, IsRearward, aback, why-listed, same-member, backward-starts, backward-steps, backward-found, backward-nearer}
use Rattle.pfc_world.proofs.lookups.last_of.Goals as goal

pub loop-next-init : goal.loop-next-init
loop-next-init c =
    backward-starts c.args.spread (ticket_at c.args.why) c.args.rows.now.rows (list_of c.args.spread c.args.why) c.args.waits.now c.last-next.result
    (why-listed c.args.spread c.args.why) c.requires
    (subst (λ n. MatchOption c.last-next.result (IsEmpty c.args.waits.now.members n) (IsLast c.args.waits.now.members n))
    c.list_of.ensures.list c.last-next.ensures)

pub returns-then-waits_at-clause-last : goal.returns-then-waits_at-clause-last
returns-then-waits_at-clause-last c =
    let h : IsRearward c.args.spread (ticket_at c.args.why) c.args.rows.now.rows (list_of c.args.spread c.args.why) c.in-Some.p =
    subst (λ o. IsBackward c.args.spread (ticket_at c.args.why) c.args.rows.now.rows (list_of c.args.spread c.args.why) o) c.in-Some.is c.loop-next.invariant in
    last-found (ticket_at c.args.why) c.args.rows.now.rows (Some c.in-Some.p) (at-gives c.args.why) c.done-done.ensures.tickets.apart
    (backward-found c.args.spread (ticket_at c.args.why) c.args.rows.now.rows (list_of c.args.spread c.args.why) c.in-Some.p (at-gives c.args.why) h
    (sym c.waits_at.ensures ∙ c.if-waits_at.true))

pub loop-next-smaller : goal.loop-next-smaller
loop-next-smaller c =
    let h : IsRearward c.args.spread (ticket_at c.args.why) c.args.rows.now.rows (list_of c.args.spread c.args.why) c.in-Some.p =
    subst (λ o. IsBackward c.args.spread (ticket_at c.args.why) c.args.rows.now.rows (list_of c.args.spread c.args.why) o) c.in-Some.is c.loop-next.invariant in
    subst (λ o. aback c.args.rows.now.rows c.previous-next.result < aback c.args.rows.now.rows o) (sym c.in-Some.is)
    (backward-nearer c.args.spread (ticket_at c.args.why) c.args.rows.now.rows
    (list_of c.args.spread c.args.why) c.in-Some.p c.args.waits.now c.previous-next.result c.requires h
    (c.previous-next.ensures (list_of c.args.spread c.args.why) h.ticket
    (same-member c.args.spread c.args.rows.now.rows c.args.waits.now c.in-Some.p c.requires ∙ h.own)))

pub loop-next-preserved : goal.loop-next-preserved
loop-next-preserved c =
    let h : IsRearward c.args.spread (ticket_at c.args.why) c.args.rows.now.rows (list_of c.args.spread c.args.why) c.in-Some.p =
    subst (λ o. IsBackward c.args.spread (ticket_at c.args.why) c.args.rows.now.rows (list_of c.args.spread c.args.why) o) c.in-Some.is c.loop-next.invariant in
    backward-steps c.args.spread (ticket_at c.args.why) c.args.rows.now.rows
    (list_of c.args.spread c.args.why) c.in-Some.p c.args.waits.now c.previous-next.result (at-gives c.args.why) (why-listed c.args.spread c.args.why)
    c.done-done.ensures.tickets.apart c.requires h (sym c.waits_at.ensures ∙ c.if-waits_at.false)
    (c.previous-next.ensures (list_of c.args.spread c.args.why) h.ticket
    (same-member c.args.spread c.args.rows.now.rows c.args.waits.now c.in-Some.p c.requires ∙ h.own))

pub returns-clause-last : goal.returns-clause-last
returns-clause-last c =
    let none : IsNobody (ticket_at c.args.why) c.args.rows.now.rows =
    subst (λ o. IsBackward c.args.spread (ticket_at c.args.why) c.args.rows.now.rows (list_of c.args.spread c.args.why) o)
    c.in_default.is c.loop-next.invariant in
    sym (last-none (ticket_at c.args.why) c.args.rows.now.rows none)
