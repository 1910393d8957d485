use Rattle.std.proofs.Common.{◌≡◌, None}
use Rattle.pfc_machines_tests.proofs.scripts.first_in.Given as goal

abbrev pub invariant-loop-at : goal.invariant-loop-at
invariant-loop-at l = l.scene.machine.world.acting ≡ None
