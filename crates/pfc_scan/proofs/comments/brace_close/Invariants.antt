use Rattle.std.proofs.Common.{◌≡◌, drop}
use Rattle.pfc_scan.specs.Finding.{brace_close}
use Rattle.pfc_scan.proofs.comments.brace_close.Given as goal

abbrev pub invariant-loop-at : goal.invariant-loop-at
invariant-loop-at l = brace_close l.at (drop l.at l.text) ≡ brace_close 0 l.text
