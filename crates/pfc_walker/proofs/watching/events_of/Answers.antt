use Rattle.std.proofs.Common.{◌≡◌, ◌-◌, ◌++◌, List, [], Option, Some, ap, arith, subst, sym}
use Rattle.pfc_hb.specs.declared.events.Event.{Event as EventSeen}
use Rattle.pfc_walker.specs.Watching.{IsFirstEvent, IsNextEvent, Watched, events_from}
use Rattle.pfc_walker.proofs.Watched.{watched_all, watched_more}
use Rattle.pfc_walker.proofs.watching.events_of.Goals as goal

pub loop-events-init : goal.loop-events-init
loop-events-init c = record {
  some = c.requires;
  all = λ p c' program stands. record {
    config = c';
    stands = stands;
    both = ap (λ (l : List EventSeen). l ++ events_from p c.args.limit c.args.picker.now c.args.waited.now c') c.new-events.ensures.items;
  };
}

pub loop-events-preserved : goal.loop-events-preserved
loop-events-preserved c = record {
  some =
      let (p, d, program, stands) = c.loop-events.invariant.some in
      let first : IsFirstEvent c.args.source.now p c.loop-events.left c.loop-events.picker c.next_event.new.picker c.loop-events.waited c.next_event.new.waited
      d c.next_event.new.state c.in-Some.event =
      subst
      (λ (x : Option EventSeen). IsNextEvent c.args.source.now p c.loop-events.left c.loop-events.picker c.next_event.new.picker c.loop-events.waited
      c.next_event.new.waited d c.next_event.new.state x)
      c.in-Some.is (c.in_ok-event.ensures.event p d program stands) in
      (p, first.config, program, first.stands);
  all = λ p c' program stands.
      let w = c.loop-events.invariant.all p c' program stands in
      let first : IsFirstEvent c.args.source.now p c.loop-events.left c.loop-events.picker c.next_event.new.picker c.loop-events.waited c.next_event.new.waited
      w.config c.next_event.new.state c.in-Some.event =
      subst
      (λ (x : Option EventSeen). IsNextEvent c.args.source.now p c.loop-events.left c.loop-events.picker c.next_event.new.picker c.loop-events.waited
      c.next_event.new.waited w.config c.next_event.new.state x)
      c.in-Some.is (c.in_ok-event.ensures.event p w.config program w.stands) in
      let all = events_from p c.args.limit c.args.picker.now c.args.waited.now c' in
      subst
      (λ (l : List EventSeen). Watched c.args.source.now p
      (c.loop-events.left - 1) c.next_event.new.picker c.next_event.new.waited c.next_event.new.state l all)
      (sym c.in_ok-push.ensures.items)
      (watched_more c.args.source.now p c.loop-events.left c.loop-events.picker c.next_event.new.picker c.loop-events.waited c.next_event.new.waited
      c.loop-events.state c.next_event.new.state
      c.loop-events.events.items all c.in-Some.event (c.loop-events.left - 1) w first (omega (arith, first.one)));
}

pub returns : goal.returns
returns c = λ p c' program stands.
    let w = c.loop-events.invariant.all p c' program stands in
    let none : events_from p c.loop-events.left c.loop-events.picker c.loop-events.waited w.config ≡ [] =
    subst
    (λ (x : Option EventSeen). IsNextEvent c.args.source.now p c.loop-events.left c.loop-events.picker c.next_event.new.picker c.loop-events.waited
    c.next_event.new.waited w.config c.next_event.new.state x)
    c.in_default.is (c.in_ok-event.ensures.event p w.config program w.stands) in
    watched_all c.args.source.now p c.loop-events.left c.loop-events.picker c.loop-events.waited c.loop-events.state c.loop-events.events.items
    (events_from p c.args.limit c.args.picker.now c.args.waited.now c') w none
