-- The strings still to come complete the list.
use Rattle.std.proofs.Common.{◌≡◌, ◌++◌, drop}
use Rattle.pfc_generator.proofs.coded.add_copies.Given as goal

abbrev pub invariant-loop-k : goal.invariant-loop-k
invariant-loop-k l = l.texts.items ++ drop l.k l.more ≡ l.fn.texts.items ++ drop l.from l.more
