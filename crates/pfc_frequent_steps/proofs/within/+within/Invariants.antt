use Rattle.std.proofs.Common.{length}
use Rattle.pfc_frequent_steps.proofs.within.+within.Given as goal

abbrev pub decreases-within : goal.decreases-within
decreases-within l = length l.levels.now
