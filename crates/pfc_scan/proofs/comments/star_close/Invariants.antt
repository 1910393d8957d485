use Rattle.std.proofs.Common.{◌≡◌, drop, false}
use Rattle.pfc_scan.specs.Finding.{star_close}
use Rattle.pfc_scan.proofs.comments.star_close.Given as goal

abbrev pub invariant-loop-at : goal.invariant-loop-at
invariant-loop-at l = star_close l.is_after_star l.at (drop l.at l.text) ≡ star_close false 0 l.text
