use Rattle.pfc_sites.proofs.Held.{spot_here}
use Rattle.pfc_sites.proofs.sites.Site.variable.Goals as goal

pub returns : goal.returns
returns c =
    let site = c.args.self in
    spot_here site.env site.program.now.tables c.args.name.now c.found.result c.spot.result c.spot.ensures site.same c.found.ensures.value
