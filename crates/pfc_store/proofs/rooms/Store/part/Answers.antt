use Rattle.std.proofs.Common.{◌∙◌, pos, sym, ap}
use Rattle.std.specs.Option.{option_copied}
use Rattle.pfc_semantics.specs.Values.{part}
use Rattle.pfc_store.specs.Views.{part_view}
use Rattle.pfc_store.proofs.Paths.{part_of_ordinal, places}
use Rattle.pfc_store.proofs.rooms.Store.part.Goals as goal

pub returns-in_err-variable : goal.returns-in_err-variable
returns-in_err-variable c =
    let steps = places c.args.l.now.selectors.items in
    ap (λ o. part_view (option_copied o)) c.from_residual.ensures
    ∙ sym (part_of_ordinal steps (pos 0))
    ∙ ap (part steps) (sym (ap (λ o. part_view (option_copied o)) c.in_err-variable.was) ∙ c.variable.ensures)
