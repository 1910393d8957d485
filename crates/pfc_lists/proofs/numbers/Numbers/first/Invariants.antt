use Rattle.std.proofs.Common.{◌≡◌, ◌<◌, ◌*◌, length, get_or, drop}
use Rattle.pfc_lists.specs.Bits.{flags, numbers, numbers_from}
use Rattle.pfc_lists.proofs.numbers.Numbers.first.Given as goal

abbrev pub invariant-loop-k : goal.invariant-loop-k
invariant-loop-k l = record {
  found : 0 < length (numbers_from (64 * l.k) (flags (drop l.k l.word-items)));
  same : get_or (numbers_from (64 * l.k) (flags (drop l.k l.word-items))) 0 0 ≡ get_or (numbers (flags l.word-items)) 0 0;
}
