use Rattle.std.proofs.Common.{◌≡◌, ◌≤◌, drop, min}
use Rattle.pfc_values.specs.Inputs.{number_behind}
use Rattle.pfc_values.proofs.digits.number.Given as goal

abbrev pub invariant-loop-b : goal.invariant-loop-b
invariant-loop-b l = record {
  value : min (number_behind l.value (drop l.b-index l.digits)) 4294967296 ≡ min (number_behind 0 l.digits) 4294967296;
  small : l.value ≤ 4294967296;
}
