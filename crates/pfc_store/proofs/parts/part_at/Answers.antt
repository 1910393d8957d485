use Rattle.std.proofs.Common.{◌∙◌, sym, ap, pos}
use Rattle.std.specs.Option.{option_copied}
use Rattle.pfc_store.specs.Views.{value_view, part_view}
use Rattle.pfc_store.proofs.Paths.{nothing_there}
use Rattle.pfc_store.proofs.parts.part_at.Goals as goal

pub returns-in_err-at : goal.returns-in_err-at
returns-in_err-at c =
    let none = sym c.part_in.ensures ∙ ap (λ o. part_view (option_copied o)) c.in_err-at.was in
    ap (λ o. part_view (option_copied o)) c.from_residual.ensures
    ∙ sym (nothing_there c.args.steps.now c.loop-step.step-index (record { place = 0; index = pos 0 })
    (value_view c.loop-step.at.now) c.loop-step-test.true none)
    ∙ c.loop-step.invariant
