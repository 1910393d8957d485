use Rattle.std.proofs.Common.{◌∙◌, ◌∷◌, [], Bool, sym, ap}
use Rattle.std.specs.Prelude.{◌||◌}
use Rattle.pfc_objects.proofs.ObjectCells.{by_held, simple_cells}
use Rattle.pfc_objects.proofs.cells.is_object.Goals as goal

pub returns-then-held : goal.returns-then-held
returns-then-held c =
    let conditions = c.held-held.result.conditions in
    simple_cells c.args.types.now c.args.t c.requires
    ∙ ap (λ held. by_held held ∷ []) (sym c.held-held.ensures.value)
    ∙ ap (λ (b : Bool). (b || conditions) ∷ []) c.if-held.true
    ∙ ap (λ (b : Bool). b ∷ []) (sym c.if-held.true)

pub returns-else-held : goal.returns-else-held
returns-else-held c =
    let conditions = c.held-held.result.conditions in
    simple_cells c.args.types.now c.args.t c.requires
    ∙ ap (λ held. by_held held ∷ []) (sym c.held-held.ensures.value)
    ∙ ap (λ (b : Bool). (b || conditions) ∷ []) c.if-held.false
