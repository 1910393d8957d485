use Rattle.std.proofs.Common.{◌≡◌, drop}
use Rattle.pfc_values.specs.Inputs.{behind_blanks}
use Rattle.pfc_values.proofs.digits.blanks_length.Given as goal

abbrev pub invariant-loop-at : goal.invariant-loop-at
invariant-loop-at l = behind_blanks (drop l.at l.bytes) ≡ behind_blanks l.bytes
