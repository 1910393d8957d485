use Rattle.std.proofs.Common.{◌∙◌, pos, refl, sym, ap}
use Rattle.std.specs.Option.{option_copied}
use Rattle.pfc_semantics.specs.Values.{part, path_of}
use Rattle.pfc_semantics.specs.Store.{variable}
use Rattle.pfc_semantics.specs.Displays.{own_location}
use Rattle.pfc_store.specs.Views.{selectors_view, spot_view, value_view, part_view, store_view}
use Rattle.pfc_store.proofs.Seen.{points_seen}
use Rattle.pfc_store.proofs.Paths.{part_of_ordinal, places}
use Rattle.pfc_store.proofs.Reaching.{behind_steps, value_there}
use Rattle.pfc_store.proofs.rooms.Store.part_in.Goals as goal

pub returns-in_err-held : goal.returns-in_err-held
returns-in_err-held c =
    let store = store_view c.args.self.now in
    let own = own_location c.args.display.now (spot_view c.args.spot.now) in
    let steps = selectors_view c.args.spot.now.selectors.items in
    ap (λ o. part_view (option_copied o)) c.from_residual.ensures
    ∙ sym
    (value_there store own.activation own.variable (variable store own) steps refl
    ∙ ap (λ v. behind_steps store v steps) (sym c.variable_of.ensures ∙ ap (λ o. part_view (option_copied o)) c.in_err-held.was)
    ∙ part_of_ordinal (path_of steps) (pos 0))

pub returns-in_err-part-in-Points : goal.returns-in_err-part-in-Points
returns-in_err-part-in-Points c =
    let store = store_view c.args.self.now in
    let own = own_location c.args.display.now (spot_view c.args.spot.now) in
    let steps = selectors_view c.args.spot.now.selectors.items in
    ap (λ o. part_view (option_copied o)) c.from_residual-in_err-part-in-Points.ensures
    ∙ sym
    (value_there store own.activation own.variable (variable store own) steps refl
    ∙ ap (λ v. behind_steps store v steps) (sym c.in_ok-held.ensures ∙ ap value_view c.in-Points.is ∙ points_seen c.in-Points.l)
    ∙ ap (part (path_of steps)) (sym c.in_err-part-in-Points.ensures)
    ∙ part_of_ordinal (path_of steps) (pos 0))

pub returns-in_ok-part-in-Points : goal.returns-in_ok-part-in-Points
returns-in_ok-part-in-Points c =
    let store = store_view c.args.self.now in
    let own = own_location c.args.display.now (spot_view c.args.spot.now) in
    let steps = selectors_view c.args.spot.now.selectors.items in
    c.part_at.ensures
    ∙ ap (λ s. part (places s) (value_view c.in_ok-part-in-Points.field-0.now)) c.deref.ensures.value
    ∙ ap (part (path_of steps)) c.in_ok-part-in-Points.ensures
    ∙ sym
    (value_there store own.activation own.variable (variable store own) steps refl
    ∙ ap (λ v. behind_steps store v steps) (sym c.in_ok-held.ensures ∙ ap value_view c.in-Points.is ∙ points_seen c.in-Points.l))
