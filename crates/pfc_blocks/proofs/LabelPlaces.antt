-- The label of a block is the first name that stands for it.
use Rattle.std.proofs.Common.{◌≡◌, ◌<◌, ℕ, zero, suc, ◌+◌, Bool, true, false, [], ◌∷◌, length, drop, get_or, Some, None, cond, refl, sym, ap}
use Rattle.std.proofs.Common.{◌∙◌, arith}
use Rattle.std.specs.Prelude.{position, if◌then◌else◌}
use Rattle.std.specs.List.{position_from}
use Rattle.std.proofs.lemmas.List.{drop_more}
use Rattle.std.proofs.lemmas.Iterator.Adapters.{position_from-zero}
use Rattle.pfc_tree.specs.Symbols.{Text}
use Rattle.pfc_types.specs.Blocks.{State}
use Rattle.pfc_types.specs.Scopes.{Names}
use Rattle.pfc_types.specs.declared.scope.Meaning.{Meaning}
use Rattle.pfc_types.specs.declared.scope.Meaning.TheVariants.{Faulty}
use Rattle.pfc_translation.specs.Images.{names_block, label_in}

abbrev pub is_named : State → ℕ → Text × Meaning → Bool
is_named s i x = names_block s i x.1

module _ (s : State) (i : ℕ) (d : Text × Meaning) where
  -- so far from the place j on
  abbrev IsLabel : Names → ℕ → ℕ → Type 0
  IsLabel names j k = (m : ℕ) × (k ≡ j + m) × (label_in s i names ≡ (get_or names m d).0)

  first_or_later :
      (e : Text × Meaning) (names : Names) (j k : ℕ) (b : Bool) → is_named s i e ≡ b
      → (position_from (is_named s i) (j + 1) names ≡ Some k → IsLabel names (j + 1) k)
      → cond b (Some j) (position_from (is_named s i) (j + 1) names) ≡ Some k → IsLabel (e ∷ names) j k
  first_or_later e names j k true named later h =
      let at : j ≡ k = cc in (0, omega (arith, at), ap (λ (b : Bool). if b then e.0 else label_in s i names) named)
  first_or_later e names j k false other later h =
      let (m, place, is) = later h in
      (suc m, omega (arith, place), ap (λ (b : Bool). if b then e.0 else label_in s i names) other ∙ is)

  label_from : (names : Names) (j k : ℕ) → position_from (is_named s i) j names ≡ Some k → IsLabel names j k
  label_from [] j k there = absurd (cc)
  label_from (e ∷ names) j k there = first_or_later e names j k (is_named s i e) refl (λ h. label_from names (j + 1) k h) there

  pub label_at : (names : Names) (k : ℕ) → position (is_named s i) names ≡ Some k → label_in s i names ≡ (get_or names k d).0
  label_at names k there =
      let (m, place, is) = label_from names 0 k (sym (position_from-zero (is_named s i) names) ∙ there) in
      let at : m ≡ k = omega (arith, place) in
      is ∙ ap (λ (n : ℕ). (get_or names n d).0) at

module _ (s : State) (i : ℕ) (names : Names) (k : ℕ) (m : Meaning) (within : k < length names) (is : (d : Text × Meaning) → m ≡ (get_or names k d).1) where
  abbrev rest : Names
  rest = drop (k + 1) names

  named_by : (b : Bool) → names_block s i m ≡ b → position_from (is_named s i) k (drop k names) ≡ cond b (Some k) (position_from (is_named s i) (k + 1) rest)
  named_by b e =
      let d : Text × Meaning = ([], Faulty) in
      ap (position_from (is_named s i) k) (drop_more names k d within)
      ∙ ap (λ (c : Bool). cond c (Some k) (position_from (is_named s i) (k + 1) rest)) (ap (names_block s i) (sym (is d)) ∙ e)

  -- the name at a place is the first
  pub place_found : names_block s i m ≡ true → position_from (is_named s i) k (drop k names) ≡ Some k
  place_found e = named_by true e

  -- or not
  pub place_passed : names_block s i m ≡ false → position_from (is_named s i) (k + 1) rest ≡ position_from (is_named s i) k (drop k names)
  place_passed e = sym (named_by false e)

pub no_place : (s : State) (i k : ℕ) (names : Names) → names ≡ [] → position_from (is_named s i) k names ≡ None
no_place s i k names none = ap (position_from (is_named s i) k) none
