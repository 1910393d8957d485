use Rattle.std.proofs.Common.{◌≡◌, ◌-◌, ◌<◌, ◌≤◌, ℕ, true, get_or, arith, sym, ap, subst, inl, inr}
use Rattle.std.proofs.lemmas.Bool.{cases_eq}
use Rattle.std.proofs.lemmas.List.{get_or_read}
use Rattle.pfc_hb.specs.Order.{no_event, event_at}
use Rattle.pfc_hb.specs.Clocks.{Has, reaches}
use Rattle.pfc_hb.proofs.ClockLaws.{own_past-rest}
use Rattle.pfc_hb.proofs.order.count_own_past.Goals as goal

pub returns-then-events-earlier-clause-all : goal.returns-then-events-earlier-clause-all
returns-then-events-earlier-clause-all c =
    let events = c.args.events.now in
    let slots = c.args.slots.now in
    let j = c.args.place in
    let i = c.loop-earlier.earlier - 1 in
    let lt : i < j = omega arith in
    let there = get_or_read events i c.index-events-earlier.result (omega (arith, lt, c.requires.place)) c.index-events-earlier.is no_event in
    let here = get_or_read events j c.index-events-place.result c.requires.place c.index-events-place.is no_event in
    let first : c.index-events-earlier.result.process ≡ (event_at events i).process = ap (λ e. e.process) there in
    let read : c.index-events-earlier.result.process ≡ (get_or events i c.index-events-earlier.result).process =
    ap (λ e. e.process) c.index-events-earlier.is in
    let second : c.index-events-place.result.process ≡ (event_at events j).process = ap (λ e. e.process) here in
    let one : (event_at events i).process ≡ (event_at events j).process = cc c.if-events-earlier.true in
    let clock = c.count_if_reaching.new.clock in
    let so_far : (k : ℕ) → i ≤ k → k < j → reaches (event_at events k) (event_at events j) ≡ true → Has slots.of_events.items clock k = λ k from small h.
    elim (cases_eq i k) [
      | inl e ↦ subst (λ v. Has slots.of_events.items clock v) e
          (c.count_if_reaching.ensures.counted (subst (λ v. reaches (event_at events v) (event_at events j) ≡ true) (sym e) h))
      | inr other ↦ c.count_if_reaching.ensures.kept k (c.loop-earlier.invariant.so_far k (omega arith) small h)
    ] in
    own_past-rest events slots.of_events.items slots.width j i clock lt c.requires.place one c.count_if_reaching.ensures.gathered so_far
