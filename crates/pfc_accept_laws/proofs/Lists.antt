-- A list with another element in one place, and what holds of each element of a list.
use Rattle.std.proofs.Common.{◌≡◌, ◌≢◌, ℕ, zero, suc, List, [], ◌∷◌, ◌++◌, map, get_or, set, refl, ap, arith}
use Rattle.std.specs.List.{AllByRecursion}

never : (n : ℕ) → suc n ≡ zero → ⊥
never n is = grind (arith, is)

never_back : (n : ℕ) → zero ≡ suc n → ⊥
never_back n is = grind (arith, is)

less_one : (n k : ℕ) → suc n ≡ suc k → n ≡ k
less_one n k is = grind (arith, is)

-- what is found there, or else in the list, or nowhere
pub set_changes : {X : Type 0} (P : X → Type 0) (d : X) (xs : List X) (p q : ℕ) (x : X) → (q ≡ p → P x) → (q ≢ p → P (get_or xs q d)) → P d
    → P (get_or (set xs p x) q d)
set_changes P d [] p q x one other nowhere = nowhere
set_changes P d (y ∷ xs) zero zero x one other nowhere = one refl
set_changes P d (y ∷ xs) zero (suc q) x one other nowhere = other (never q)
set_changes P d (y ∷ xs) (suc p) zero x one other nowhere = other (never_back p)
set_changes P d (y ∷ xs) (suc p) (suc q) x one other nowhere =
    set_changes P d xs p q x (λ is. one (ap suc is)) (λ off. other (λ is. off (less_one q p is))) nowhere

module _ {X : Type 0} (P : X → Type 0) where
  pub all_append : (xs ys : List X) → AllByRecursion P xs → AllByRecursion P ys → AllByRecursion P (xs ++ ys)
  all_append [] ys first second = second
  all_append (x ∷ xs) ys first second = (first.0, all_append xs ys first.1 second)

  pub all_push : (xs : List X) (x : X) → AllByRecursion P xs → P x → AllByRecursion P (xs ++ x ∷ [])
  all_push xs x all one = all_append xs (x ∷ []) all (one, tt)

  pub all_map : {Y : Type 0} (f : Y → X) → ((y : Y) → P (f y)) → (ys : List Y) → AllByRecursion P (map f ys)
  all_map f each [] = tt
  all_map f each (y ∷ ys) = (each y, all_map f each ys)

pub set_apart : {X : Type 0} (d : X) (xs : List X) (p q : ℕ) (x : X) → q ≢ p → get_or (set xs p x) q d ≡ get_or xs q d
set_apart d [] p q x off = refl
set_apart d (y ∷ xs) zero zero x off = absurd (off refl)
set_apart d (y ∷ xs) zero (suc q) x off = refl
set_apart d (y ∷ xs) (suc p) zero x off = refl
set_apart d (y ∷ xs) (suc p) (suc q) x off = set_apart d xs p q x (λ same. off (ap suc same))
