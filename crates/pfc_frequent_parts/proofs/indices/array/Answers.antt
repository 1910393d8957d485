use Rattle.std.proofs.Common.{◌∙◌, ap}
use Rattle.pfc_store.specs.Views.{selectors_view}
use Rattle.pfc_frequent_parts.proofs.Alone.{spot_found}
use Rattle.pfc_frequent_parts.proofs.indices.array.Goals as goal

pub returns : goal.returns
returns c =
    let site = c.args.site in
    let spot = c.spot-spot.result in
    ap (λ items. record { spot = record { scope = spot.scope; variable = spot.variable; selectors = selectors_view items }; t = spot.t }) c.new.ensures.items
    ∙ spot_found site.env site.program.now.tables c.args.found spot c.spot-spot.ensures site.same
