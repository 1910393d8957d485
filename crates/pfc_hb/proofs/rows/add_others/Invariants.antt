use Rattle.std.proofs.Common.{◌≡◌, length, take}
use Rattle.pfc_hb.specs.Rows.{AddsOthers}
use Rattle.pfc_hb.proofs.rows.add_others.Given as goal

abbrev pub invariant-loop-number : goal.invariant-loop-number
invariant-loop-number l = record {
  wide : length l.row ≡ length l.initial.row;
  added : AddsOthers l.users (take l.number-index l.numbers) l.write l.from l.initial.row l.row;
}
