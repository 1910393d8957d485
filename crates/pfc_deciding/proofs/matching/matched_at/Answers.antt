use Rattle.std.proofs.Common.{sym, ◌∙◌}
use Rattle.pfc_deciding.proofs.Taking.{matched_here}
use Rattle.pfc_deciding.proofs.matching.matched_at.Goals as goal

pub returns-then-left-eq0-clause-matched : goal.returns-then-left-eq0-clause-matched
returns-then-left-eq0-clause-matched c =
    matched_here c.args.world.now.rows c.args.p c.loop-place.place c.args.arms.now _ c.loop-place.left c.args.k c.in-Some.partner c.loop-place-test.true
    c.loop-place.invariant c.if-left-eq0.true (sym c.partner_of.ensures.partner ∙ c.in-Some.is)
