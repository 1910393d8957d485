use Rattle.std.proofs.Common.{◌≡◌, ◌++◌}
use Rattle.pfc_code.proofs.CodeLines.{lines_from}
use Rattle.pfc_code.proofs.printing.print_code.Given as goal

abbrev pub invariant-loop-address : goal.invariant-loop-address
invariant-loop-address l = l.page ++ lines_from l.address l.image.code.items l.image.lines.items ≡ lines_from 0 l.image.code.items l.image.lines.items
