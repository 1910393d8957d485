-- Those that were gone through are below it.
use Rattle.std.proofs.Common.{ℕ, ◌<◌, get_or}
use Rattle.pfc_beginning.proofs.counts.are_below.Given as goal

abbrev pub invariant-loop-n : goal.invariant-loop-n
invariant-loop-n l = (k : ℕ) → k < l.n-index → get_or l.numbers k 0 < l.end
