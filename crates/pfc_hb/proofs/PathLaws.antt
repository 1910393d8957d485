-- Paths of which one begins the other.
use Rattle.std.proofs.Common.{◌≡◌, ◌≢◌, ℕ, ◌<◌, ◌≤◌, inl, inr, true, false, ℤ, pos, List, length, get_or, take, arith, refl, sym, ap, ◌∙◌}
use Rattle.std.specs.Ordering.{int_eq}
use Rattle.std.specs.Cmp.Rules.{signed_items}
use Rattle.std.specs.List.{starts_with}
use Rattle.std.proofs.Math.Bool.{or-true}
use Rattle.std.proofs.lemmas.Bool.{cases_Bool, false≢true, false_from_ne_true}
use Rattle.std.proofs.lemmas.List.{take_all, get_or-take, length-take, same_lists, get_or_default}
use Rattle.pfc_hb.specs.Conflicts.{overlaps}

front-same : (path front : List ℤ) (n : ℕ) → n < length front → starts_with int_eq path front ≡ true → get_or path n (pos 0) ≡ get_or front n (pos 0)
front-same path front n within h =
    let same : front ≡ take (length front) path = (signed_items front (take (length front) path)).0 h in
    sym (ap (λ l. get_or l n (pos 0)) same ∙ get_or-take (length front) path n (pos 0) within)

-- a path does not begin with one that has another step
pub begins-not : (path front : List ℤ) (n : ℕ) → n < length front → (get_or path n (pos 0) ≢ get_or front n (pos 0)) → false ≡ starts_with int_eq path front
begins-not path front n within apart = sym (false_from_ne_true _ (λ h. apart (front-same path front n within h)))

-- a path begins with one that is no longer and has the same steps
pub begins-with : (path front : List ℤ) → length front ≤ length path
    → ((k : ℕ) → k < length front → get_or path k (pos 0) ≡ get_or front k (pos 0)) → true ≡ starts_with int_eq path front
begins-with path front long same =
    let n = length front in
    let wide : n ≡ length (take n path) = omega (arith, length-take n path, long) in
    let there : (k : ℕ) (d : ℤ) → k < n → get_or front k (pos 0) ≡ get_or (take n path) k d =
    λ k d lt. sym (same k lt) ∙ sym (get_or-take n path k (pos 0) lt) ∙ get_or_default (take n path) k (pos 0) d (omega (arith, lt, wide)) in
    let all : front ≡ take n path = same_lists front (take n path) wide (λ k d lt. get_or_default front k d (pos 0) lt ∙ there k d lt) in
    sym ((signed_items front (take n path)).1 all)

-- where a path does not begin with one that is no longer, it is not the beginning of that one either
none-begins : (path front : List ℤ) → length front ≤ length path → starts_with int_eq path front ≡ false → starts_with int_eq front path ≡ false
none-begins path front long none = false_from_ne_true _ (λ h.
    let other : path ≡ take (length path) front = (signed_items path (take (length path) front)).0 h in
    let short : length path ≤ length front = omega (arith, ap length other, length-take (length path) front) in
    let same : path ≡ front = other ∙ take_all (length path) front long in
    let back : front ≡ take (length front) path = sym same ∙ sym (take_all (length front) path short) in
    false≢true (sym none ∙ (signed_items front (take (length front) path)).1 back))

pub shorter-begins : (path other : List ℤ) → length path ≤ length other → starts_with int_eq other path ≡ overlaps path other
shorter-begins path other long = elim (cases_Bool (starts_with int_eq other path)) [
  | inl begun ↦ rw begun (sym (or-true (starts_with int_eq path other)))
  | inr none ↦ rw (none, none-begins other path long none) refl
]
