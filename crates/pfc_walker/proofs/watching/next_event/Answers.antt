use Rattle.std.proofs.Common.{◌≡◌, ◌+◌, ◌-◌, List, Option, None, ap, arith, subst, sym}
use Rattle.std.specs.Prelude.{IsSome}
use Rattle.pfc_hb.specs.declared.events.Event.{Event as EventSeen}
use Rattle.pfc_semantics.specs.Events.{Step}
use Rattle.std.proofs.lemmas.Result.{IfOk-weaker}
use Rattle.pfc_semantics.specs.Time.{settled_config}
use Rattle.pfc_races.specs.Ordered.{ordered}
use Rattle.pfc_walker.specs.Watching.{IsNextEvent}
use Rattle.pfc_walker.proofs.watching.next_event.Goals as goal

pub next_actor-requires : goal.next_actor-requires
next_actor-requires c = let (g, c', program, stands) = c.requires in (c.args.source.now, c', stands)

pub returns-in-Ok-clause-event : goal.returns-in-Ok-clause-event
returns-in-Ok-clause-event c =
    let one : (c.args.left - 1) + 1 ≡ c.args.left = omega (arith, c.in-Ok.ensures.some) in
    IfOk-weaker c.event_of.result _ _
    (λ event h g c' program stands.
    subst (λ n. IsNextEvent c.args.source.now g n c.args.picker.now c.event_of.new.picker c.args.waited.now c.event_of.new.waited c' c.event_of.new.state event)
    one
    (h g c.args.left (c.args.left - 1) c.args.picker.now c' (settled_config c') program (c.in-Ok.ensures.stands c.args.source.now c' stands)
    (c.in-Ok.ensures.pick c.args.source.now g c' stands)))
    c.event_of.ensures

pub returns-in-Err-clause-event : goal.returns-in-Err-clause-event
returns-in-Err-clause-event c =
    IfOk-weaker c.no_event.result _ _
    (λ event h g c' program stands.
    subst
    (λ (x : Option EventSeen). IsNextEvent c.args.source.now g c.args.left c.args.picker.now c.next_actor.new.picker c.args.waited.now
    c.args.waited.now c' c.next_actor.new.state x)
    (sym h.0) (ap (λ (ts : List Step). ordered c.args.waited.now ts) ((c.in-Err.ensures.over c.args.source.now g c' stands).none h.1)))
    c.no_event.ensures

pub returns-in-Err-clause-some : goal.returns-in-Err-clause-some
returns-in-Err-clause-some c =
    IfOk-weaker c.no_event.result _ _ (λ event h some. absurd (let none : IsSome {T = EventSeen} None =
    subst (λ (x : Option EventSeen). IsSome x) h.0 some in cc)) c.no_event.ensures
