use Rattle.std.proofs.Common.{◌≡◌, drop}
use Rattle.pfc_values.specs.Inputs.{behind_line}
use Rattle.pfc_values.proofs.lines.line_length.Given as goal

abbrev pub invariant-loop-at : goal.invariant-loop-at
invariant-loop-at l = behind_line (drop l.at l.bytes) ≡ behind_line l.bytes
