use Rattle.std.proofs.Common.{◌≡◌, None}
use Rattle.pfc_synchronisation_tests.proofs.monitors.first_difference.Given as goal

abbrev pub invariant-loop-at : goal.invariant-loop-at
invariant-loop-at l = l.world.acting ≡ None
