-- Code without jumps, strings and selects.
use Rattle.std.specs.Prelude.{◌≡◌, ℕ, [], length}
use Rattle.pfc_translation.specs.Codes.{Code}

-- It is the same wherever it stands, and has as many instructions as it says; it writes no string, and has no select.
abbrev pub IsPlain : Code → Type 0
IsPlain c = ((at n : ℕ) → c.put at n ≡ c.put 0 0) × ((length (c.put 0 0) ≡ c.size) × ((c.texts ≡ []) × (c.arms ≡ 0)))
