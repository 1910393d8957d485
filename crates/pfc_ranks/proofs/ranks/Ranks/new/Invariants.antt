use Rattle.std.proofs.Common.{◌≡◌, None, replicate}
use Rattle.pfc_ranks.proofs.ranks.Ranks.new.Given as goal

abbrev pub invariant-loop-p : goal.invariant-loop-p
invariant-loop-p l = l.delays.items ≡ replicate l._p None
