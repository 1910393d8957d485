use Rattle.pfc_world.proofs.Waking.{wakes-more, wakes-fewer, wakes-all}
use Rattle.pfc_world.proofs.world.World.wake_due.Goals as goal

pub loop-p-smaller : goal.loop-p-smaller
loop-p-smaller c = wakes-fewer c.loop-p.self c.wake.new.self c.in-Some.p c.in-Some.ensures c.wake.ensures.world

pub loop-p-preserved : goal.loop-p-preserved
loop-p-preserved c = wakes-more c.args.self.now c.loop-p.self c.wake.new.self c.in-Some.p c.loop-p.invariant c.in-Some.ensures c.wake.ensures.world

pub returns : goal.returns
returns c = wakes-all c.args.self.now c.loop-p.self c.loop-p.invariant c.in_default.ensures
