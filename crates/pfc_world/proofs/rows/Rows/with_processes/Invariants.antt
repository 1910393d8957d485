use Rattle.pfc_world.proofs.Starts.{AreIdle}
use Rattle.pfc_world.proofs.rows.Rows.with_processes.Given as goal

abbrev pub invariant-loop-p : goal.invariant-loop-p
invariant-loop-p l = AreIdle l.rows.items l.p l.arms
