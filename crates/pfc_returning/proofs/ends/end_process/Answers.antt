use Rattle.std.proofs.Common.{List, refl, ap, ◌∙◌}
use Rattle.pfc_store.specs.Views.{store_view}
use Rattle.pfc_semantics.specs.Processes.{without_all}
use Rattle.pfc_activities.specs.declared.activities.Activation.{Activation}
use Rattle.pfc_activities.specs.declared.activities.Activity.{Activity}
use Rattle.pfc_activities.specs.declared.state.State.{State}
use Rattle.pfc_activities.specs.Views.{activations_view}
use Rattle.pfc_returning.proofs.Ending.{finished_once, ends_process_so}
use Rattle.pfc_returning.proofs.ends.end_process.Goals as goal

pub returns : goal.returns
returns c = λ source g c' choice b is_at e.
    let t = source.program.tables in
    let old : State = c.args.state.now in
    let mid : State = record old { store = c.remove_rooms.new.store; world = c.finish.new.self } in
    ends_process_so source g old mid _ c' c.args.p choice c.args.line b c.end_activity.new.activity is_at e refl
    (c.remove_rooms.ensures t
    ∙ ap (λ (xs : List Activation). without_all (store_view old.store) (activations_view t xs)) c.deref.ensures.value
    ∙ ap (λ (x : Activity). without_all (store_view old.store) (activations_view t x.activations.items)) (c.index.ensures ∙
    is_at.before.there.is c.index.result.now))
    (finished_once old.world c.begin-r.new.self c.finish.new.self c.args.p c.begin-r.result.number c.begin-r.ensures.number
    c.begin-r.ensures.world c.finish.ensures)
    (c.end_activity.ensures t) refl (record { semaphores = refl; monitors = refl; resources = refl; store = refl; input = refl; draws = refl })
    c.tick.ensures.world c.tick.ensures.fresh
