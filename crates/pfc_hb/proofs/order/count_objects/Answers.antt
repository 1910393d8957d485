use Rattle.std.proofs.Common.{◌≡◌, true, length, get_or, arith, sym, ap, subst, ◌∙◌, below_more}
use Rattle.std.proofs.lemmas.List.{get_or_read}
use Rattle.pfc_hb.specs.declared.objects.Thing.TheVariants.{Semaphore}
use Rattle.pfc_hb.specs.Order.{no_event, event_at}
use Rattle.pfc_hb.specs.Clocks.{has_thing}
use Rattle.pfc_hb.proofs.ClockLaws.{objects-counted}
use Rattle.pfc_hb.proofs.order.count_objects.Goals as goal

pub loop-thing-preserved : goal.loop-thing-preserved
loop-thing-preserved c =
    let more = c.count_object.ensures in
    let now = c.loop-thing.invariant in
    record {
      gathered = more.gathered;
      kept = λ k h. more.kept k (now.kept k h);
      so_far = below_more _ _ (λ m lt k small h. more.kept k (now.so_far m lt k small h)) more.counted;
    }

pub returns-clause-all : goal.returns-clause-all
returns-clause-all c =
    let events = c.args.events.now in
    let slots = c.args.slots.now in
    let j = c.args.place in
    let here = get_or_read events j c.index-events-place.result c.requires.place c.index-events-place.is no_event in
    let same : c.as_slice-thing-items.result.now ≡ (event_at events j).things =
    c.as_slice-thing-items.ensures ∙ ap (λ e. e.things) (sym c.index-events-place.is) ∙ ap (λ e. e.things) here in
    let long = ap length same in
    objects-counted events slots.of_events.items slots.width j c.loop-thing.clock (Semaphore 0)
    (λ m lt k small h.
    c.loop-thing.invariant.so_far m (omega (arith, long, lt, c.loop-thing-test.false)) k small
    (subst (λ ts. has_thing (get_or ts m (Semaphore 0)) (event_at events k) ≡ true) (sym same) h))
