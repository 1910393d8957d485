-- A name is found at its place.
use Rattle.std.proofs.Common.{◌≡◌, ◌≢◌, ℕ, zero, suc, ◌+◌, Bool, true, false, List, [], ◌∷◌, get_or, Some, cond, refl, sym, ap, ◌∙◌, arith}
use Rattle.std.specs.Prelude.{bytes_eq, position}
use Rattle.std.specs.Map.{keys_of}
use Rattle.std.specs.List.{position_from}
use Rattle.std.proofs.lemmas.Slice.Eq.{bytes_eq-Decides}
use Rattle.std.proofs.lemmas.Iterator.Adapters.{position_from-zero}

module _ {A : Type 0} (x : List ℕ) where
  -- so far from the place i on
  abbrev IsAt : List (List ℕ × A) → ℕ → ℕ → (List ℕ × A) → Type 0
  IsAt entries i k d = (j : ℕ) × (k ≡ i + j) × ((get_or entries j d).0 ≡ x)

  first_or_later :
      (e : List ℕ × A) (entries : List (List ℕ × A)) (i k : ℕ) (d : List ℕ × A) (b : Bool) → bytes_eq x e.0 ≡ b
      → (position_from (bytes_eq x) (i + 1) (keys_of entries) ≡ Some k → IsAt entries (i + 1) k d)
      → cond b (Some i) (position_from (bytes_eq x) (i + 1) (keys_of entries)) ≡ Some k → IsAt (e ∷ entries) i k d
  first_or_later e entries i k d true same later h =
      let at : i ≡ k = cc in
      let is : x ≡ e.0 = grind (arith, bytes_eq-Decides, same) in
      (0, omega (arith, at), sym is)
  first_or_later e entries i k d false other later h = let (j, place, is) = later h in (suc j, omega (arith, place), is)

  found_from :
      (entries : List (List ℕ × A)) (i k : ℕ) (d : List ℕ × A) → position_from (bytes_eq x) i (keys_of entries) ≡ Some k → IsAt entries i k d
  found_from [] i k d there = absurd (cc)
  found_from (e ∷ entries) i k d there =
      first_or_later e entries i k d (bytes_eq x e.0) refl (λ h. found_from entries (i + 1) k d h) there

  pub found :
      (entries : List (List ℕ × A)) (k i : ℕ) (d : List ℕ × A) → position (bytes_eq x) (keys_of entries) ≡ Some k → k ≡ i → (get_or entries i d).0 ≡ x
  found entries k i d there same =
      let (j, place, is) = found_from entries 0 k d (sym (position_from-zero (bytes_eq x) (keys_of entries)) ∙ there) in
      let at : i ≡ j = omega (arith, place, same) in
      ap (λ (n : ℕ). (get_or entries n d).0) at ∙ is
