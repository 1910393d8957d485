use Rattle.std.proofs.Common.{◌≡◌, length, arith, subst}
use Rattle.pfc_alternatives.proofs.All.{IsOffering, offering-ends}
use Rattle.pfc_alternatives.proofs.alternatives.Alternatives.offer.Goals as goal

pub returns-clause-offered : goal.returns-clause-offered
returns-clause-offered c =
    let all : c.loop-place.place ≡ length c.args.arms.now = omega arith in
    offering-ends c.args.self.now c.loop-place.self c.args.p c.args.arms.now c.args.ticket
    (subst (λ n. IsOffering c.args.self.now c.loop-place.self c.args.p c.args.arms.now n c.args.ticket) all c.loop-place.invariant)
