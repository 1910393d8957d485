-- Sets of numbers as bits.
use Rattle.std.specs.Prelude.{ℕ, zero, suc, ◌+◌, ◌/◌, ◌%◌, Bool, ◌==◌, if◌then◌else◌, List, [], ◌∷◌, ◌++◌}

-- the lowest bits of a word, so many, the lowest first
unfoldable pub bits : ℕ → ℕ → List Bool
bits zero word = []
bits (suc k) word = (word % 2 == 1) ∷ bits k (word / 2)

-- the bits of some words, 64 of each
unfoldable pub flags : List ℕ → List Bool
flags [] = []
flags (word ∷ words) = bits 64 word ++ flags words

-- the numbers of the truths that hold, where the first has this number
abbrev pub numbers_from : ℕ → List Bool → List ℕ
numbers_from n [] = []
numbers_from n (held ∷ rest) = if held then n ∷ numbers_from (n + 1) rest else numbers_from (n + 1) rest

-- the numbers of the set, in order
abbrev pub numbers : List Bool → List ℕ
numbers held = numbers_from 0 held
