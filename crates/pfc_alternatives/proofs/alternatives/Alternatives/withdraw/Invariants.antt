use Rattle.pfc_alternatives.proofs.All.{IsWithdrawing}
use Rattle.pfc_alternatives.proofs.alternatives.Alternatives.withdraw.Given as goal

abbrev pub invariant-loop-place : goal.invariant-loop-place
invariant-loop-place l = IsWithdrawing l.fn.self l.self l.p l.place
