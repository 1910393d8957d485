use Rattle.std.proofs.Common.{◌<◌, Some, is_some, sym, ap, ◌∙◌, subst}
use Rattle.pfc_alternatives.specs.Lists.{list_of}
use Rattle.pfc_state.specs.Stands.{ticket_offering}
use Rattle.pfc_world.specs.Firsts.{IsNobody}
use Rattle.pfc_world.specs.Tables.{at}
use Rattle.pfc_world.proofs.Finding.{offerings-give, first-found}
use Rattle.pfc_world.proofs.FirstIs.{first-none}
use Rattle.pfc_world.proofs.Offerers.{IsWalk, IsAhead, distance, walk-starts, walk-steps, walk-found, walk-nearer}
use Rattle.pfc_world.proofs.lookups.first_offering.Goals as goal

pub loop-next-init : goal.loop-next-init
loop-next-init c = walk-starts c.args.arm c.args.rows.now.rows c.args.offers.now c.first-next.result c.requires c.first-next.ensures

pub returns-then-offers-clause-first : goal.returns-then-offers-clause-first
returns-then-offers-clause-first c =
    let h : IsAhead c.args.arm c.args.rows.now.rows c.args.offers.now c.in-Some.node =
    subst (λ o. IsWalk c.args.arm c.args.rows.now.rows c.args.offers.now o) c.in-Some.is c.loop-next.invariant in
    first-found (ticket_offering c.args.arm) c.args.rows.now.rows (Some c.process_of-p.result) (offerings-give c.args.arm) c.done-done.ensures.tickets.apart
    (walk-found c.args.arm c.args.rows.now.rows c.args.offers.now c.in-Some.node c.process_of-p.result c.requires c.process_of-p.ensures h
    (sym c.offers.ensures ∙ c.if-offers.true))

pub returns-then-offers-clause-found : goal.returns-then-offers-clause-found
returns-then-offers-clause-found c =
    let h : IsAhead c.args.arm c.args.rows.now.rows c.args.offers.now c.in-Some.node =
    subst (λ o. IsWalk c.args.arm c.args.rows.now.rows c.args.offers.now o) c.in-Some.is c.loop-next.invariant in
    walk-found c.args.arm c.args.rows.now.rows c.args.offers.now c.in-Some.node c.process_of-p.result c.requires c.process_of-p.ensures h
    (sym c.offers.ensures ∙ c.if-offers.true)

pub loop-next-smaller : goal.loop-next-smaller
loop-next-smaller c =
    let h : IsAhead c.args.arm c.args.rows.now.rows c.args.offers.now c.in-Some.node =
    subst (λ o. IsWalk c.args.arm c.args.rows.now.rows c.args.offers.now o) c.in-Some.is c.loop-next.invariant in
    subst (λ o. distance c.args.offers.now c.args.rows.now.done c.next-next.result < distance c.args.offers.now c.args.rows.now.done o) (sym c.in-Some.is)
    (walk-nearer c.args.arm c.args.rows.now.rows c.args.offers.now c.in-Some.node c.args.rows.now.done c.next-next.result
    c.done-done.ensures.tickets c.requires h
    (c.next-next.ensures (list_of c.args.offers.now.places c.args.arm) h.ticket h.own))

pub loop-next-preserved : goal.loop-next-preserved
loop-next-preserved c =
    let h : IsAhead c.args.arm c.args.rows.now.rows c.args.offers.now c.in-Some.node =
    subst (λ o. IsWalk c.args.arm c.args.rows.now.rows c.args.offers.now o) c.in-Some.is c.loop-next.invariant in
    walk-steps c.args.arm c.args.rows.now.rows c.args.offers.now c.in-Some.node c.next-next.result c.done-done.ensures.tickets.apart c.requires h
    (sym (ap (λ p. is_some (ticket_offering c.args.arm (at c.args.rows.now.rows p))) c.process_of-p.ensures) ∙ sym c.offers.ensures ∙ c.if-offers.false)
    (c.next-next.ensures (list_of c.args.offers.now.places c.args.arm) h.ticket h.own)

pub returns-clause-first : goal.returns-clause-first
returns-clause-first c =
    let none : IsNobody (ticket_offering c.args.arm) c.args.rows.now.rows =
    subst (λ o. IsWalk c.args.arm c.args.rows.now.rows c.args.offers.now o) c.in_default.is c.loop-next.invariant in
    sym (first-none (ticket_offering c.args.arm) c.args.rows.now.rows none)
