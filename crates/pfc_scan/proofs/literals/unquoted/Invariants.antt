use Rattle.std.proofs.Common.{◌≡◌, ◌++◌, drop, false}
use Rattle.pfc_scan.specs.Finding.{unquoted}
use Rattle.pfc_scan.proofs.literals.unquoted.Given as goal

abbrev pub invariant-loop-b : goal.invariant-loop-b
invariant-loop-b l = l.text.items ++ unquoted l.is_after_quote (drop l.b-index l.bytes) ≡ unquoted false l.bytes
