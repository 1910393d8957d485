use Rattle.pfc_alternatives.proofs.All.{IsOffering}
use Rattle.pfc_alternatives.proofs.alternatives.Alternatives.offer.Given as goal

abbrev pub invariant-loop-place : goal.invariant-loop-place
invariant-loop-place l = IsOffering l.fn.self l.self l.p l.arms l.place l.ticket
