use Rattle.pfc_world.proofs.ChildrenEnd.{ending-starts, ending-nearer, ending-goes-on, ending-ends}
use Rattle.pfc_world.proofs.world.World.terminate.Goals as goal

pub loop-p-init : goal.loop-p-init
loop-p-init c = ending-starts c.args.self.now c.requires

pub loop-p-smaller : goal.loop-p-smaller
loop-p-smaller c = ending-nearer c.loop-p.self c.end.new.self c.in-Some.p c.in-Some.ensures c.end.ensures

pub loop-p-preserved : goal.loop-p-preserved
loop-p-preserved c = ending-goes-on c.args.self.now c.loop-p.self c.end.new.self c.in-Some.p c.loop-p.invariant c.in-Some.ensures c.end.ensures

pub returns : goal.returns
returns c = ending-ends c.args.self.now c.loop-p.self c.release.new.self c.loop-p.invariant c.in_default.ensures c.release.ensures
