use Rattle.std.proofs.Common.{◌+◌, set, arith, sym, ap, subst, ◌∙◌}
use Rattle.std.proofs.lemmas.List.{get_or_read}
use Rattle.pfc_hb.specs.Clocks.{IsClock, Gathers}
use Rattle.pfc_hb.proofs.ClockLaws.{is_clock, gathers-nothing}
use Rattle.pfc_hb.proofs.order.clock_of.Goals as goal

pub returns : goal.returns
returns c =
    let events = c.args.events.now in
    let slots = c.args.slots.now in
    let j = c.args.place in
    let done = is_clock events slots.of_events.items slots.width j c.gather.new.clock c.requires.slots c.requires.place
    c.gather.ensures.gathered c.gather.ensures.all in
    let slot = get_or_read slots.of_events.items j c.index.result.now (omega (arith, c.requires.slots.each)) c.index.ensures 0 in
    let made = c.set_count.ensures ∙ ap (λ s. set c.gather.new.clock s (j + 1)) slot in
    subst (IsClock events slots.of_events.items slots.width j) (sym made) done

pub gather-requires-clause-behind : goal.gather-requires-clause-behind
gather-requires-clause-behind c =
    let slots = c.args.slots.now in
    subst (Gathers c.args.events.now slots.of_events.items slots.width c.args.place) (sym c.in_ok-clock.ensures)
    (gathers-nothing c.args.events.now slots.of_events.items slots.width c.args.place)
