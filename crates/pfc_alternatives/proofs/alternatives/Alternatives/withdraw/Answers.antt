use Rattle.std.proofs.Common.{◌≡◌, arith, subst}
use Rattle.pfc_alternatives.proofs.All.{IsWithdrawing, withdrawing-ends}
use Rattle.pfc_alternatives.proofs.alternatives.Alternatives.withdraw.Goals as goal

pub returns-clause-none : goal.returns-clause-none
returns-clause-none c =
    let all : c.loop-place.place ≡ c.args.count = omega arith in
    withdrawing-ends c.args.self.now c.loop-place.self c.args.p c.args.count c.requires.only
    (subst (λ n. IsWithdrawing c.args.self.now c.loop-place.self c.args.p n) all c.loop-place.invariant)
