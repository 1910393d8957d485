use Rattle.std.proofs.Common.{ℕ, List, ◌∙◌, ap}
use Rattle.pfc_hb.specs.declared.accesses.Access.{Access as AccessSeen}
use Rattle.pfc_hb.specs.declared.events.Event.{Event as EventSeen}
use Rattle.pfc_hb.specs.declared.objects.Thing.{Thing as ThingSeen}
use Rattle.pfc_events.specs.Events.{event_held}
use Rattle.pfc_events.proofs.Telling.{event_is}
use Rattle.pfc_events.proofs.events.happened.Goals as goal

pub returns : goal.returns
returns c = λ source g c' choice n bytes foretold ends.
    let e : EventSeen = event_held c.args.told c.args.state.now c.args.p c.args.joins in
    ap (λ (l : List ℕ). (let x : EventSeen = record e { wakes = l; things = c.from_vec.result; accesses = c.from_vec-2.result } in x)) c.woken.ensures
    ∙ ap (λ (l : List ThingSeen). (let x : EventSeen = record e { things = l; accesses = c.from_vec-2.result } in x)) c.from_vec.ensures
    ∙ ap (λ (l : List AccessSeen). (let x : EventSeen = record e { accesses = l } in x)) c.from_vec-2.ensures
    ∙ event_is source g c' c.args.p choice n bytes c.args.told c.args.state.now c.args.joins foretold ends
