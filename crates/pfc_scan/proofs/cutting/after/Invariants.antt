use Rattle.std.proofs.Common.{◌≡◌, ◌+◌, ◌≤◌, drop}
use Rattle.pfc_scan.specs.Cutting.{after}
use Rattle.pfc_scan.proofs.cutting.after.Given as goal

abbrev pub invariant-loop-b : goal.invariant-loop-b
invariant-loop-b l = record {
  rest : after l.place (drop l.b-index l.bytes) ≡ after l.fn.place l.bytes;
  lines : l.place.line ≤ l.fn.place.line + l.b-index;
  columns : l.place.column ≤ l.fn.place.column + l.b-index;
}
