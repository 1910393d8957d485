-- The fields so far.
use Rattle.std.proofs.Common.{◌≡◌, ◌*◌, ◌≤◌}
use Rattle.pfc_translation.specs.Addresses.{fields_before}
use Rattle.pfc_expression_code.proofs.parts.fields_before.Given as goal

abbrev pub invariant-loop-i : goal.invariant-loop-i
invariant-loop-i l = record {
  value : l.sum ≡ fields_before l.types l.fields l.i;
  bound : l.sum ≤ 65536 * l.i;
}
