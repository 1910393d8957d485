-- Code that has as many instructions as it says.
use Rattle.std.specs.Prelude.{◌≡◌, ℕ, length}
use Rattle.pfc_translation.specs.Codes.{Code}

-- wherever it stands, and however many strings stand before it
abbrev pub IsSized : Code → Type 0
IsSized c = (at n : ℕ) → length (c.put at n) ≡ c.size
