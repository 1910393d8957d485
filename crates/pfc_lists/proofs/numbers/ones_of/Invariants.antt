use Rattle.std.proofs.Common.{◌≡◌, ◌≤◌, ◌*◌, length, take}
use Rattle.pfc_lists.specs.Bits.{flags, numbers}
use Rattle.pfc_lists.proofs.numbers.ones_of.Given as goal

abbrev pub invariant-loop-word : goal.invariant-loop-word
invariant-loop-word l = record {
  count : l.total ≡ length (numbers (flags (take l.word-index l.words)));
  few : l.total ≤ 64 * l.word-index;
}
