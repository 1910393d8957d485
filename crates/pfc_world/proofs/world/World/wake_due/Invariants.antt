use Rattle.pfc_world.specs.Indexes.{count_of}
use Rattle.pfc_world.proofs.Waking.{is_pending, IsWaking}
use Rattle.pfc_world.proofs.world.World.wake_due.Given as goal

abbrev pub invariant-loop-p : goal.invariant-loop-p
invariant-loop-p l = IsWaking l.fn.self l.self

abbrev pub decreases-loop-p : goal.decreases-loop-p
decreases-loop-p l = count_of is_pending l.self.rows
