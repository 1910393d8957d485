-- What is known, and behind it the numbers still to come, decide.
use Rattle.std.proofs.Common.{◌≡◌, ℕ, ◌==◌, get_or, drop, None}
use Rattle.std.specs.List.{position_from}
use Rattle.std.specs.Option.{option_or}
use Rattle.pfc_program.proofs.index.Index.new.Given as goal

abbrev pub invariant-loop-key : goal.invariant-loop-key
invariant-loop-key l =
    (l.n ≡ l.key-index)
    × ((i : ℕ) → option_or (get_or l.firsts.items i None) (position_from (λ k. k == i) l.n (drop l.key-index l.keys)) ≡ position_from (λ k. k == i) 0 l.keys)
