use Rattle.std.proofs.Common.{◌∙◌, [], refl, ap}
use Rattle.pfc_semantics.specs.Displays.{Spot}
use Rattle.pfc_addresses.specs.Sites.{site_view}
use Rattle.pfc_select_code.specs.Cells.{addressed_cell}
use Rattle.pfc_select_code.proofs.Sums.{accept_addressed}
use Rattle.pfc_select_code.proofs.cells.own_cell.Goals as goal

pub returns : goal.returns
returns c =
    let v : Spot = record { scope = c.args.n; variable = 0; selectors = [] } in
    c.addressed_cell.ensures ∙ ap addressed_cell (c.address.ensures v refl refl) ∙ accept_addressed (site_view c.args.site) c.args.n c.requires
