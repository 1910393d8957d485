use Rattle.std.proofs.Common.{◌≡◌, replicate}
use Rattle.pfc_lists.proofs.numbers.Numbers.new.Given as goal

abbrev pub invariant-loop-i : goal.invariant-loop-i
invariant-loop-i l = l.empty.items ≡ replicate l._i 0
