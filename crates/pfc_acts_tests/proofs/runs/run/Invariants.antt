use Rattle.std.proofs.Common.{◌≡◌, true, drop}
use Rattle.pfc_code.specs.Images.{plain_image}
use Rattle.pfc_acts_tests.specs.Runs.{may_run}
use Rattle.pfc_acts_tests.proofs.runs.run.Given as goal

-- the others may act
abbrev pub invariant-loop-p : goal.invariant-loop-p
invariant-loop-p l = may_run (plain_image l.image) (drop l.p-index l.picks) l.picker l.machine ≡ true
