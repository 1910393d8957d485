use Rattle.pfc_addresses.specs.Sites.{site_view}
use Rattle.pfc_addresses.proofs.Held.{spot_here}
use Rattle.pfc_addresses.proofs.sites.Site.spot.Goals as goal

pub returns : goal.returns
unfolding site_view
returns c = spot_here c.args.self c.args.name.now c.find.result c.spot.result c.spot.ensures c.find.ensures.value
