use Rattle.pfc_views.proofs.Links.{links_lead}
use Rattle.pfc_views.proofs.laws.static_links_lead_along.Goals as goal

pub returns : goal.returns
returns c = λ g homes entries store keeps display b accepts w chain view stacks l a home sees memory few there at.
    links_lead g homes entries store keeps stacks memory few.cells w chain l a home sees.links there at
