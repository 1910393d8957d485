use Rattle.std.proofs.Common.{◌≡◌}
use Rattle.pfc_machines.specs.Offers.{without}
use Rattle.pfc_machines.proofs.communications.Communications.forget.Given as goal

-- so many are left to go
abbrev pub invariant-loop-left : goal.invariant-loop-left
invariant-loop-left l = without l.left l.self ≡ without l.n l.fn.self

abbrev pub decreases-loop-left : goal.decreases-loop-left
decreases-loop-left l = l.left
