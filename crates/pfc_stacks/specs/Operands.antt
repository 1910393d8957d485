-- Operands and how many they may be.
use Rattle.std.specs.Prelude.{ℕ, ℤ, List}

-- top first
pub record Held : Type 0 where
  pub words : List ℤ
  pub room : ℕ
