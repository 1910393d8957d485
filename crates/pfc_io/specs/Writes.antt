-- What calls of a sink did to the bytes that it holds, where it tells them.
use Rattle.std.specs.Prelude.{ℕ, ◌≤◌, List, length, take, Option}
use Rattle.std.specs.Io.KnownBytes.{Appends}

-- the known bytes grew by a front of these bytes
pub record AppendsFront (old new : Option (List ℕ)) (bytes : List ℕ) : Type 0 where
  pub count : ℕ
  pub bound : count ≤ length bytes
  pub front : Appends old new (take count bytes)
