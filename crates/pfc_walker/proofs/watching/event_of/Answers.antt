use Rattle.std.proofs.Common.{◌+◌, Option, subst, sym}
use Rattle.pfc_hb.specs.declared.events.Event.{Event as EventSeen}
use Rattle.pfc_acting.proofs.Before.{before_any}
use Rattle.pfc_walker.specs.Watching.{IsNextEvent}
use Rattle.pfc_walker.proofs.Watched.{next_event_so}
use Rattle.pfc_walker.proofs.watching.event_of.Goals as goal

pub returns : goal.returns
returns c = λ g limit left picking c' d program stands pick.
    let before = before_any c.args.source.now c.args.state.now d c.args.p c.requires.within stands in
    subst
    (λ (x : Option EventSeen). IsNextEvent c.args.source.now g
    (left + 1) picking c.act_watched.new.picker c.args.waited.now c.act_watched.new.waited c' c.act_watched.new.state x)
    (sym c.event_in.ensures)
    (next_event_so c.args.source.now g limit left picking c.args.picker.now c' d c.args.p pick c.act_watched.new.state
    c.act_watched.new.picker _ c.act_watched.new.out
    c.args.waited.now c.act_watched.new.waited c.in_ok-walked.walked (c.in_ok-walked.ensures.ok g d program before)
    (c.in_ok-walked.ensures.watched g d program before))
