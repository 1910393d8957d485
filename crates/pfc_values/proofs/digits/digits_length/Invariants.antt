use Rattle.std.proofs.Common.{◌≡◌, ◌++◌, take, drop}
use Rattle.pfc_values.specs.Inputs.{digits, behind_digits}
use Rattle.pfc_values.proofs.digits.digits_length.Given as goal

abbrev pub invariant-loop-at : goal.invariant-loop-at
invariant-loop-at l = record {
  front : take l.at l.bytes ++ digits (drop l.at l.bytes) ≡ digits l.bytes;
  behind : behind_digits (drop l.at l.bytes) ≡ behind_digits l.bytes;
}
