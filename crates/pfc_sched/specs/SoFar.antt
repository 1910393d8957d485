-- A script of which some numbers were read.
use Rattle.std.specs.Prelude.{ℕ, List, ◌++◌, Result, Ok, Err}

-- numbers that were read, before what the rest comes to
abbrev pub numbers_before : List ℕ → Result (List ℕ) ℕ → Result (List ℕ) ℕ
numbers_before front (Ok numbers) = Ok (front ++ numbers)
numbers_before front (Err item) = Err item
