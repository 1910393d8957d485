-- Tests of some element of a list.
use Rattle.std.proofs.Common.{◌≡◌, ℕ, zero, suc, ◌+◌, ◌-◌, ◌<◌, ◌≤◌, Bool, true, false, List, [], ◌∷◌, length, get_or, take, drop, inl, inr, arith, refl, subst}
use Rattle.std.specs.List.{list_any, Contains}
use Rattle.std.proofs.lemmas.Bool.{or_cases, or_left, or_right, false≢true}
use Rattle.std.proofs.lemmas.List.{get_or-take, get_or-drop, length-take, length-drop}

-- an element passes
pub list_any-found : {X : Type 0} (p : X → Bool) (xs : List X) (d : X) → list_any p xs ≡ true → (k : ℕ) × (k < length xs) × (p (get_or xs k d) ≡ true)
list_any-found p [] d h = absurd (false≢true h)
list_any-found p (x ∷ xs) d h = elim (or_cases (p x) (list_any p xs) h) [
  | inl here ↦ (zero, omega arith, here)
  | inr there ↦ let f = list_any-found p xs d there in (suc f.0, omega (arith, f.1), f.2)
]

pub list_any-at : {X : Type 0} (p : X → Bool) (xs : List X) (d : X) (k : ℕ) → k < length xs → p (get_or xs k d) ≡ true → list_any p xs ≡ true
list_any-at p [] d k lt h = absurd (omega (arith, lt))
list_any-at p (x ∷ xs) d zero lt h = or_left (p x) (list_any p xs) h
list_any-at p (x ∷ xs) d (suc k) lt h = or_right (p x) (list_any p xs) (list_any-at p xs d k (omega (arith, lt)) h)

pub list_any-contained : {X : Type 0} (p : X → Bool) (xs : List X) (x : X) → Contains xs x → p x ≡ true → list_any p xs ≡ true
list_any-contained p xs x c h = list_any-at p xs x c.0 c.1 (rw c.2 h)

-- the element that passes lies in the part of the list that is taken
pub list_any-between : {X : Type 0} (p : X → Bool) (xs : List X) (d : X) (i j : ℕ) → list_any p (drop (i + 1) (take j xs)) ≡ true
    → (k : ℕ) × (i < k) × (k < j) × (p (get_or xs k d) ≡ true)
list_any-between p xs d i j h =
    let f = list_any-found p (drop (i + 1) (take j xs)) d h in
    let within : f.0 < length (take j xs) - (i + 1) = subst (λ n. f.0 < n) (length-drop (i + 1) (take j xs)) f.1 in
    let near : length (take j xs) ≤ j = rw length-take (omega arith) in
    let lt : i + 1 + f.0 < j = omega (arith, within, near) in
    let there : p (get_or (take j xs) (i + 1 + f.0) d) ≡ true = rw get_or-drop at f.2 in
    (i + 1 + f.0, omega arith, lt, rw (get_or-take j xs (i + 1 + f.0) d lt) at there)

pub list_any-none : {X : Type 0} (xs : List X) → list_any (λ (x : X). false) xs ≡ false
list_any-none [] = refl
list_any-none (x ∷ xs) = list_any-none xs
