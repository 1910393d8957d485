use Rattle.std.proofs.Common.{sym, ◌∙◌}
use Rattle.pfc_meet.proofs.Choosing.{chosen, exhausted}
use Rattle.pfc_meet.proofs.selects.match_at.Goals as goal

pub returns-then-left-eq0-clause-chosen : goal.returns-then-left-eq0-clause-chosen
returns-then-left-eq0-clause-chosen c =
    chosen c.args.world.now.rows c.args.p c.loop-place.place c.args.arms.now _ c.loop-place.left c.args.k c.in-Some.met c.loop-place-test.true
    c.loop-place.invariant c.if-left-eq0.true (sym c.partner.ensures.partner ∙ c.in-Some.is)

pub unreachable-requires : goal.unreachable-requires
unreachable-requires c =
    exhausted c.args.world.now.rows c.args.p c.loop-place.place c.args.arms.now c.loop-place.left c.args.k c.loop-place-test.false
    c.loop-place.invariant c.requires.matched
