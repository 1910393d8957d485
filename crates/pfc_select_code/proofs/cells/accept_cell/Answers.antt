use Rattle.std.proofs.Common.{◌≡◌, ◌∙◌, take, sym, ap, ap₂}
use Rattle.std.proofs.lemmas.Result.{IfOk-weaker}
use Rattle.pfc_types.specs.Types.{Forms}
use Rattle.pfc_semantics.specs.Layouts.{Layout}
use Rattle.pfc_semantics.specs.Programs.{layout_cells}
use Rattle.pfc_translation.specs.Selects.{accept_cell}
use Rattle.pfc_addresses.specs.Sites.{site_view}
use Rattle.pfc_select_code.proofs.cells.accept_cell.Goals as goal

pub own_cell-requires : goal.own_cell-requires
unfolding site_view
own_cell-requires c = sym c.is_accept.ensures ∙ c.if-is_accept.true

pub returns-clause-value : goal.returns-clause-value
unfolding site_view
returns-clause-value c =
    let s = site_view c.args.site in
    let layout : Layout = c.args.site.body.now.block.now.layout.items in
    IfOk-weaker c.cells_of_first.result (λ cell. cell ≡ layout_cells c.tables.result.types.now (take c.in_ok-variables.variables c.deref.result.now))
    (λ cell. cell ≡ accept_cell s c.args.n)
    (λ cell e.
    e
    ∙ ap (λ (l : Layout). layout_cells c.tables.result.types.now (take c.in_ok-variables.variables l)) c.deref.ensures.value
    ∙ ap₂ (λ (forms : Forms) k. layout_cells forms (take k layout)) c.tables.ensures.forms c.in_ok-variables.ensures.value)
    c.cells_of_first.ensures.value
