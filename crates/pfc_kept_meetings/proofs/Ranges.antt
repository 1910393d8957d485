-- Variables that stand from one place of a layout on and before another, and their cells.
use Rattle.std.proofs.Common.{◌≡◌, ℕ, zero, suc, ◌+◌, ◌<◌, ◌≤◌, Bool, true, false, ◌&&◌, [], ◌∷◌, slice_get, Some, None, refl, ap, arith}
use Rattle.std.specs.Prelude.{nat_le, nat_lt}
use Rattle.pfc_types.specs.Types.{Forms}
use Rattle.pfc_types.specs.declared.scope.Meaning.{Meaning}
use Rattle.pfc_types.specs.rules.Declarations.{name_cells}
use Rattle.pfc_semantics.specs.Layouts.{Layout}
use Rattle.pfc_cells.specs.Homes.{cells_before}
use Rattle.pfc_cells.proofs.Variables.{cells_next}

cells_behind : (forms : Forms) (layout : Layout) (k : ℕ) (m : Meaning) → slice_get layout k ≡ Some m
    → cells_before forms layout (suc k) ≡ cells_before forms layout k + name_cells forms m
cells_behind forms [] k m there = absurd (let no : None ≡ Some m = there in cc)
cells_behind forms (x ∷ layout) zero m there =
    let same : x ≡ m = (let both : Some x ≡ Some m = there in cc) in
    let first : cells_before forms (x ∷ layout) (suc zero) ≡ name_cells forms x + 0 = cells_next forms x layout zero in
    let is : name_cells forms x ≡ name_cells forms m = ap (λ (y : Meaning). name_cells forms y) same in
    start (cells_before forms (x ∷ layout) (suc zero)) (name_cells forms x) (name_cells forms m) first is
  where
    start : (j n r : ℕ) → j ≡ n + 0 → n ≡ r → j ≡ 0 + r
    start j n r first is = grind (arith, first, is)
cells_behind forms (x ∷ layout) (suc k) m there =
    more (cells_before forms (x ∷ layout) (suc (suc k))) (name_cells forms x) (cells_before forms layout (suc k)) (cells_before forms layout k)
    (name_cells forms m) (cells_before forms (x ∷ layout) (suc k))
    (cells_next forms x layout (suc k)) (cells_behind forms layout k m there) (cells_next forms x layout k)
  where
    more : (j n i r s l : ℕ) → j ≡ n + i → i ≡ r + s → l ≡ n + r → j ≡ l + s
    more j n i r s l one two three = grind (arith, one, two, three)

cells_grow : (forms : Forms) (layout : Layout) (k j : ℕ) → k ≤ j → cells_before forms layout k ≤ cells_before forms layout j
cells_grow forms layout zero j less = least (cells_before forms layout j)
  where
    least : (n : ℕ) → 0 ≤ n
    least n = grind arith
cells_grow forms layout (suc k) zero less = absurd (no k less)
  where
    no : (n : ℕ) → suc n ≤ 0 → ⊥
    no n h = grind (arith, h)
cells_grow forms [] (suc k) (suc j) less = (let same : 0 ≤ 0 = grind arith in same)
cells_grow forms (x ∷ layout) (suc k) (suc j) less =
    both (cells_before forms (x ∷ layout) (suc k)) (cells_before forms (x ∷ layout) (suc j)) (name_cells forms x) (cells_before forms layout k)
    (cells_before forms layout j)
    (cells_next forms x layout k) (cells_next forms x layout j) (cells_grow forms layout k j (grind (arith, less)))
  where
    both : (a b n c d : ℕ) → a ≡ n + c → b ≡ n + d → c ≤ d → a ≤ b
    both a b n c d one two h = grind (arith, one, two, h)

-- the cells of these variables
abbrev pub in_range : Forms → Layout → ℕ → ℕ → ℕ → Bool
in_range forms layout from to d = nat_le (cells_before forms layout from) d && nat_lt d (cells_before forms layout to)

pub range_has : (forms : Forms) (layout : Layout) (from to k : ℕ) (m : Meaning) → slice_get layout k ≡ Some m → 0 < name_cells forms m → from ≤ k → k < to
    → in_range forms layout from to (cells_before forms layout k) ≡ true
range_has forms layout from to k m there some low high =
    tests (cells_before forms layout from) (cells_before forms layout k) (cells_before forms layout to) (cells_grow forms layout from k low)
    (below (cells_before forms layout k) (name_cells forms m) (cells_before forms layout (suc k)) (cells_before forms layout to)
    (cells_behind forms layout k m there) some (cells_grow forms layout (suc k) to (grind (arith, high))))
  where
    below : (c n s t : ℕ) → s ≡ c + n → 0 < n → s ≤ t → c < t
    below c n s t is more h = grind (arith, is, more, h)

    tests : (a c t : ℕ) → a ≤ c → c < t → (nat_le a c && nat_lt c t) ≡ true
    tests a c t one two = grind (arith, one, two)

-- a variable at another place has none of them
pub range_has_not : (forms : Forms) (layout : Layout) (from to k : ℕ) (m : Meaning) → slice_get layout k ≡ Some m → 0 < name_cells forms m
    → (from ≤ k → k < to → ⊥) → in_range forms layout from to (cells_before forms layout k) ≡ false
range_has_not forms layout from to k m there some out =
    tests (cells_before forms layout from) (cells_before forms layout k) (cells_before forms layout to)
    (λ low high. out (from_at low) (to_at high))
  where
    tests : (a c t : ℕ) → (a ≤ c → c < t → ⊥) → (nat_le a c && nat_lt c t) ≡ false
    tests a c t never = by (nat_le a c) (nat_lt c t) refl refl
      where
        by : (x y : Bool) → nat_le a c ≡ x → nat_lt c t ≡ y → (nat_le a c && nat_lt c t) ≡ false
        by true true one two = absurd (never (grind (arith, one)) (grind (arith, two)))
        by true false one two = grind (arith, one, two)
        by false y one two = grind (arith, one)

    behind : cells_before forms layout (suc k) ≡ cells_before forms layout k + name_cells forms m
    behind = cells_behind forms layout k m there

    from_at : cells_before forms layout from ≤ cells_before forms layout k → from ≤ k
    from_at low = by (nat_le from k) refl
      where
        far : (c n s a : ℕ) → s ≡ c + n → 0 < n → s ≤ a → a ≤ c → ⊥
        far c n s a is more h low = grind (arith, is, more, h, low)

        by : (x : Bool) → nat_le from k ≡ x → from ≤ k
        by true is = grind (arith, is)
        by false is =
            absurd (far (cells_before forms layout k) (name_cells forms m) (cells_before forms layout (suc k)) (cells_before forms layout from) behind some
            (cells_grow forms layout (suc k) from (grind (arith, is))) low)

    to_at : cells_before forms layout k < cells_before forms layout to → k < to
    to_at high = by (nat_lt k to) refl
      where
        far : (c t : ℕ) → t ≤ c → c < t → ⊥
        far c t h high = grind (arith, h, high)

        by : (x : Bool) → nat_lt k to ≡ x → k < to
        by true is = grind (arith, is)
        by false is =
            absurd (far (cells_before forms layout k) (cells_before forms layout to) (cells_grow forms layout to k (grind (arith, is))) high)
