use Rattle.std.proofs.Common.{◌≡◌, ℕ, ◌+◌, ◌-◌, drop, arith, sym, ap, ◌∙◌}
use Rattle.pfc_store.specs.Views.{store_view}
use Rattle.pfc_semantics.specs.Store.{Store, without}
use Rattle.pfc_semantics.specs.Processes.{without_all}
use Rattle.pfc_activities.specs.declared.activities.Activation.{Activation}
use Rattle.pfc_activities.specs.Views.{activations_view}
use Rattle.pfc_returning.proofs.Ending.{without_more, from_place}
use Rattle.pfc_returning.proofs.ends.remove_rooms.Goals as goal

pub loop-i-preserved : goal.loop-i-preserved
loop-i-preserved c = λ t.
    let xs = c.args.activations.now in
    let i : ℕ = c.loop-i.i - 1 in
    let x = c.index-activations-i.result in
    let store = store_view c.args.store.now in
    let next : c.loop-i.i ≡ i + 1 = omega arith in
    c.remove.ensures ∙ ap (λ (y : Activation). without (store_view c.loop-i.store) y.number) (sym c.index-activations-i.is)
    ∙ ap (λ (s : Store). without s x.number)
    (c.loop-i.invariant t ∙ ap (λ (k : ℕ). without_all store (activations_view t (drop k xs))) next)
    ∙ sym (ap (without_all store) (from_place t xs i x (omega arith) c.index-activations-i.is)
    ∙ without_more store (activations_view t (drop (i + 1) xs)) _)
