-- Lists that grow at their ends.
use Rattle.std.specs.Prelude.{◌≡◌, List, ◌++◌}

-- ys begins with xs
pub record Begins {A : Type 0} (xs ys : List A) : Type 0 where
  pub more : List A
  pub splits : ys ≡ xs ++ more
