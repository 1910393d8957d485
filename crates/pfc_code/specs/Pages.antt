-- How a number stands in a column.
use Rattle.std.specs.Prelude.{ℕ, ◌-◌, List, ◌++◌, length, replicate}

-- a text at the right of so many places: blanks before it up to them, and the whole text where it is longer
abbrev pub at_right : ℕ → List ℕ → List ℕ
at_right places text = replicate (places - length text) 32 ++ text
