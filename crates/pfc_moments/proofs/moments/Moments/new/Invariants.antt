use Rattle.std.proofs.Common.{◌≡◌, None, replicate}
use Rattle.pfc_moments.proofs.moments.Moments.new.Given as goal

abbrev pub invariant-loop-p : goal.invariant-loop-p
invariant-loop-p l = l.moments.items ≡ replicate l._p None
