-- The monitors of a program, as contracts see them.
use Rattle.std.specs.Prelude.{ℕ, Option, List}

-- who holds each monitor, by its number; None where it is free
pub record Guards : Type 0 where
  pub holders : List (Option ℕ)
  -- the monitor of each condition, by the condition's number
  pub owners : List ℕ
