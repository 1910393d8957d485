use Rattle.std.proofs.Common.{refl, ap, ◌∙◌}
use Rattle.pfc_activities.specs.declared.activities.Activity.{Activity}
use Rattle.pfc_activities.specs.declared.state.State.{State}
use Rattle.pfc_activities.specs.Views.{activations_view}
use Rattle.pfc_returning.proofs.Finishing.{goes_back_so}
use Rattle.pfc_returning.proofs.back.go_back_from.Goals as goal

pub returns : goal.returns
returns c = λ source g c' k choice b a below doing before acting sound living number back e output.
    let t = source.program.tables in
    let old : State = c.args.state.now in
    let mid : State = record old { store = c.remove.new.self } in
    goes_back_so source g old mid _ c' k c.args.p choice c.args.number c.args.line b c.go_back.new.activity a below doing before acting sound refl
    c.remove.ensures number
    (c.go_back.ensures t a below doing
    (ap (λ (x : Activity). activations_view t x.activations.items) (c.index_mut.ensures.value ∙ before.there.is c.index_mut.result.now) ∙ living) back)
    refl (record { semaphores = refl; monitors = refl; resources = refl; store = refl; input = refl; draws = refl })
    c.tick.ensures.world c.tick.ensures.fresh e output
