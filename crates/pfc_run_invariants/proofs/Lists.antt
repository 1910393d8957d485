-- What holds of each element of a list.
use Rattle.std.proofs.Common.{ℕ, zero, suc, Bool, true, false, if◌then◌else◌, List, [], ◌∷◌, ◌++◌, get_or, set, drop, map}
use Rattle.std.specs.List.{AllByRecursion}

module _ {X : Type 0} (P : X → Type 0) where
  pub all_append : (xs ys : List X) → AllByRecursion P xs → AllByRecursion P ys → AllByRecursion P (xs ++ ys)
  all_append [] ys first second = second
  all_append (x ∷ xs) ys first second = (first.0, all_append xs ys first.1 second)

  pub all_push : (xs : List X) (x : X) → AllByRecursion P xs → P x → AllByRecursion P (xs ++ x ∷ [])
  all_push xs x all one = all_append xs (x ∷ []) all (one, tt)

  pub all_set : (xs : List X) (i : ℕ) (x : X) → AllByRecursion P xs → P x → AllByRecursion P (set xs i x)
  all_set [] i x all one = tt
  all_set (y ∷ xs) zero x all one = (one, all.1)
  all_set (y ∷ xs) (suc i) x all one = (all.0, all_set xs i x all.1 one)

  pub all_get : (xs : List X) (i : ℕ) (x : X) → AllByRecursion P xs → P x → P (get_or xs i x)
  all_get [] i x all one = one
  all_get (y ∷ xs) zero x all one = all.0
  all_get (y ∷ xs) (suc i) x all one = all_get xs i x all.1 one

  pub all_drop : (n : ℕ) (xs : List X) → AllByRecursion P xs → AllByRecursion P (drop n xs)
  all_drop zero xs all = all
  all_drop (suc n) [] all = tt
  all_drop (suc n) (x ∷ xs) all = all_drop n xs all.1

  pub all_map : {Y : Type 0} (f : Y → X) → ((y : Y) → P (f y)) → (ys : List Y) → AllByRecursion P (map f ys)
  all_map f each [] = tt
  all_map f each (y ∷ ys) = (each y, all_map f each ys)

pub all_mapped :
    {X Y : Type 0} (P : X → Type 0) (Q : Y → Type 0) (f : Y → X) → ((y : Y) → Q y → P (f y)) → (ys : List Y) → AllByRecursion Q ys
    → AllByRecursion P (map f ys)
all_mapped P Q f each [] all = tt
all_mapped P Q f each (y ∷ ys) all = (each y all.0, all_mapped P Q f each ys all.1)

pub all_either : {X : Type 0} (P : X → Type 0) (b : Bool) (xs ys : List X) → AllByRecursion P xs → AllByRecursion P ys → AllByRecursion P (if b then xs else ys)
all_either P true xs ys first second = first
all_either P false xs ys first second = second
