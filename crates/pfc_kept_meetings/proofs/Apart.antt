-- An accept that is open at no level.
use Rattle.std.proofs.Common.{◌≡◌, ◌≢◌, ℕ, ◌==◌, true, List}
use Rattle.std.specs.List.{list_any}
use Rattle.pfc_semantics.specs.Programs.{Block}
use Rattle.pfc_translation.specs.Sites.{is_accept}

-- the accepts that are open are accepts of the block, and others than this
abbrev pub AreApart : Block → ℕ → List ℕ → Type 0
AreApart b i accepts = (j : ℕ) → list_any (λ n. n == j) accepts ≡ true → (is_accept b j ≡ true) × (j ≢ i)
