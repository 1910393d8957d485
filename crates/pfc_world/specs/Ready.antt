-- The ready processes, in the order of their numbers.
use Rattle.std.specs.Prelude.{ℕ, ◌+◌, nat_le, if◌then◌else◌, List, [], ◌∷◌, Option, Some, None, unwrap_or, slice_index}
use Rattle.pfc_state.specs.Stands.{Stand, is_ready}

-- the numbers of the ready ones among rows whose first has this number
abbrev pub ready_from : ℕ → List Stand → List ℕ
ready_from p [] = []
ready_from p (stand ∷ rest) = if is_ready stand then p ∷ ready_from (p + 1) rest else ready_from (p + 1) rest

-- the numbers of the ready processes
abbrev pub ready_numbers : List Stand → List ℕ
ready_numbers rows = ready_from 0 rows

-- the first number from `last` on
abbrev pub at_or_after : ℕ → List ℕ → Option ℕ
at_or_after last [] = None
at_or_after last (p ∷ rest) = if nat_le last p then Some p else at_or_after last rest

-- whose turn it is after `last`, cyclically: it itself, the next number after it, or the first of all
abbrev pub turn_of : ℕ → List ℕ → ℕ
turn_of last ready = unwrap_or (at_or_after last ready) (slice_index ready 0)
