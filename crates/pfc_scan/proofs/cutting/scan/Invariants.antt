use Rattle.std.proofs.Common.{length}
use Rattle.pfc_scan.proofs.Steps.{CutSoFar}
use Rattle.pfc_scan.proofs.cutting.scan.Given as goal

abbrev pub invariant-loop-rest : goal.invariant-loop-rest
invariant-loop-rest l = CutSoFar l.text l.tokens.items l.place l.rest

abbrev pub decreases-loop-rest : goal.decreases-loop-rest
decreases-loop-rest l = length l.rest
