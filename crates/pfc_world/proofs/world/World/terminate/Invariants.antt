use Rattle.pfc_state.specs.Stands.{may_end}
use Rattle.pfc_world.specs.Indexes.{count_of}
use Rattle.pfc_world.proofs.ChildrenEnd.{IsEnding}
use Rattle.pfc_world.proofs.world.World.terminate.Given as goal

abbrev pub invariant-loop-p : goal.invariant-loop-p
invariant-loop-p l = IsEnding l.fn.self l.self

abbrev pub decreases-loop-p : goal.decreases-loop-p
decreases-loop-p l = count_of may_end l.self.rows
