use Rattle.std.proofs.Common.{List, None, Some, refl, sym, ap, ◌∙◌}
use Rattle.std.specs.Prelude.{slice_get}
use Rattle.pfc_state.specs.declared.waits.Arm.{Arm}
use Rattle.pfc_world.specs.Selects.{matched}
use Rattle.pfc_store.specs.Views.{store_view}
use Rattle.pfc_semantics.specs.Channels.{communications}
use Rattle.pfc_pending.specs.Selects.{opens_view}
use Rattle.pfc_pending.specs.declared.select.Open.{Open}
use Rattle.pfc_meeting.specs.Opens.{arms_in}
use Rattle.pfc_events.proofs.Deciding.{place_in, taken_so}
use Rattle.pfc_events.proofs.choosing.taken.Goals as goal

pub returns-in-Some : goal.returns-in-Some
returns-in-Some c =
    taken_so c.args.state.now c.args.p c.index.result.now c.args.select.now c.in_ok-arms.arms.items c.args.picker.now
    (Some c.in-Some.place) c.communication_at.result
    c.index.ensures
    (c.in_ok-arms.ensures ∙ ap (λ (l : List Open). arms_in (store_view c.args.state.now.store) c.index.result.now.display (opens_view l)) c.deref.ensures.value)
    (sym c.in-Some.is ∙ c.place_of.ensures
    ∙ ap (λ (l : List Arm). place_in (matched c.args.state.now.world.rows c.args.p l) c.args.select.now c.args.picker.now) c.deref-2.ensures.value)
    (c.communication_at.ensures ∙ ap (λ (l : List Open). slice_get (communications (opens_view l)) c.in-Some.place) c.deref-in-Some.ensures.value)

pub returns : goal.returns
returns c =
    taken_so c.args.state.now c.args.p c.index.result.now c.args.select.now c.in_ok-arms.arms.items c.args.picker.now None None c.index.ensures
    (c.in_ok-arms.ensures ∙ ap (λ (l : List Open). arms_in (store_view c.args.state.now.store) c.index.result.now.display (opens_view l)) c.deref.ensures.value)
    (sym c.in-None.is ∙ c.place_of.ensures
    ∙ ap (λ (l : List Arm). place_in (matched c.args.state.now.world.rows c.args.p l) c.args.select.now c.args.picker.now) c.deref-2.ensures.value)
    refl
