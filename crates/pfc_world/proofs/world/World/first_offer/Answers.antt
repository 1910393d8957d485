use Rattle.std.proofs.Common.{sym, subst}
use Rattle.std.specs.Prelude.{MatchOption}
use Rattle.pfc_state.specs.Stands.{ticket_offering}
use Rattle.pfc_world.specs.Firsts.{IsFirst, IsNobody}
use Rattle.pfc_world.proofs.Offering.{offered}
use Rattle.pfc_world.proofs.world.World.first_offer.Goals as goal

pub returns-in-Some-clause-found : goal.returns-in-Some-clause-found
returns-in-Some-clause-found c =
    subst (λ o. MatchOption o (IsNobody (ticket_offering c.args.arm) c.args.self.now.rows)
    (λ offer. IsFirst (ticket_offering c.args.arm) c.args.self.now.rows offer.process))
    (sym c.offer_at.ensures)
    (offered c.args.arm c.args.self.now.rows c.in-Some.p
    (subst (λ w. IsFirst (ticket_offering c.args.arm) w.rows c.in-Some.p) c.self.view_is c.in-Some.ensures.found))
