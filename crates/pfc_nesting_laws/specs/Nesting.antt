-- Scopes that are told apart.
use Rattle.std.specs.Prelude.{ℕ, ◌≡◌, List, Some}
use Rattle.std.specs.List.{slice_get}

-- each of these is there once
abbrev pub AreOnce : List ℕ → Type 0
AreOnce xs = (i j k : ℕ) → slice_get xs j ≡ Some i → slice_get xs k ≡ Some i → j ≡ k
