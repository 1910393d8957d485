use Rattle.std.proofs.Common.{◌≡◌, ◌+◌, ◌<◌, List, [], ◌∷◌, length, arith, ap, subst, ◌∙◌, below_more}
use Rattle.std.specs.List.{list_any}
use Rattle.std.proofs.lemmas.List.{length_push, get_or_push, get_or_append_left, get_or_read}
use Rattle.pfc_hb.specs.declared.objects.Thing.{Thing}
use Rattle.pfc_hb.specs.Order.{event_at, is_same_thing, no_event}
use Rattle.pfc_hb.specs.Clocks.{has_thing}
use Rattle.pfc_hb.specs.Lasts.{PutsIn}
use Rattle.pfc_hb.proofs.LastLaws.{lasts-more}
use Rattle.pfc_hb.proofs.order.clocks_of.Goals as goal

pub loop-place-preserved : goal.loop-place-preserved
loop-place-preserved c =
    let slots = c.args.slots.now in
    let clocks = c.loop-place.clocks.items in
    let long = c.loop-place.invariant.each in
    let new = c.in_ok-clock.clock in
    let more = c.in_ok-push.ensures.items in
    let events = c.args.events.now in
    let place = c.loop-place.place in
    let event = c.index-events-place.result in
    let it : event ≡ event_at events place = get_or_read events place event (omega arith) c.index-events-place.is no_event in
    let before = c.loop-place.lasts.places.entries in
    let after = c.put.new.self.places.entries in
    let puts : PutsIn (λ other. has_thing other (event_at events place)) place before after =
    subst (λ (things : List Thing). PutsIn (λ other. list_any (is_same_thing other) things) place before after) (c.as_slice.ensures ∙
    ap (λ e. e.things) it) c.in_ok-put.ensures in
    record {
      each = rw more (length_push clocks new ∙ ap (λ n. n + 1) long);
      clocks = below_more _ _
          (λ j small.
          let lt : j < length clocks = omega arith in
          rw (more, get_or_append_left clocks (new ∷ []) [] j lt) (c.loop-place.invariant.clocks j small))
          (rw (more, get_or_push clocks new [] c.loop-place.place long) c.in_ok-clock.ensures);
      lasts = lasts-more events place before after c.loop-place.invariant.lasts puts;
    }
