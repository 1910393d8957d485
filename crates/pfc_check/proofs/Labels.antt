-- Labels, as they are looked up.
use Rattle.std.proofs.Common.{◌≡◌, ℕ, ℤ, int_le, nat_eq, ◌&&◌, ◌||◌, Bool, true, false, List, [], ◌∷◌, ◌++◌, map, refl, ap, ◌∙◌, arith}
use Rattle.std.proofs.lemmas.Int.{ints}
use Rattle.std.proofs.lemmas.List.{map-append}
use Rattle.std.specs.List.{list_any}
use Rattle.std.specs.Ordering.{int_eq}
use Rattle.indexmap.specs.IndexSet.{insert_key}
use Rattle.pfc_types.specs.rules.Constants.{same_ordinal}
use Rattle.pfc_check.specs.States.{label_view}

-- Labels are kept as pairs, whose `==` is this.
abbrev pub same_key : ℕ × ℤ → ℕ × ℤ → Bool
same_key a b = nat_eq a.0 b.0 && int_eq a.1 b.1

same_number : (a b : ℤ) → int_eq a b ≡ (int_le a b && int_le b a)
same_number a b = grind (arith, ints)

assoc : (a b c : Bool) → (a && (b && c)) ≡ ((a && b) && c)
assoc true b c = refl
assoc false b c = refl

-- equal pairs are the same label
same_label : (a b : ℕ × ℤ) → same_key a b ≡ same_ordinal (label_view a) (label_view b)
same_label a b = ap (λ x. nat_eq a.0 b.0 && x) (same_number a.1 b.1) ∙ assoc (nat_eq a.0 b.0) (int_le a.1 b.1) (int_le b.1 a.1)

-- a label is among the pairs where it is among the labels
pub look_up : (c : ℕ × ℤ) (cs : List (ℕ × ℤ)) → list_any (same_key c) cs ≡ list_any (same_ordinal (label_view c)) (map label_view cs)
look_up c [] = refl
look_up c (d ∷ cs) = λ i. same_label c d i || look_up c cs i

-- a new label goes behind the others
pub added : (c : ℕ × ℤ) (cs : List (ℕ × ℤ)) → list_any (same_ordinal (label_view c)) (map label_view cs) ≡ false
    → map label_view (insert_key same_key cs c) ≡ map label_view cs ++ label_view c ∷ []
added c cs fresh = rw (look_up c cs ∙ fresh) (map-append label_view cs (c ∷ []))
