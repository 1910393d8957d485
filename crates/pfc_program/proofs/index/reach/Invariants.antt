-- What was known stays known, and there is room for what is passed.
use Rattle.std.proofs.Common.{◌≡◌, ℕ, length, get_or, None}
use Rattle.pfc_program.proofs.index.reach.Given as goal

abbrev pub invariant-loop-k : goal.invariant-loop-k
invariant-loop-k l =
    (length l.firsts.items ≡ l.k) × ((i : ℕ) → get_or l.firsts.items i None ≡ get_or l.initial.firsts.items i None)
