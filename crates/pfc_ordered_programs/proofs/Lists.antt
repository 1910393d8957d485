-- What holds of each element of a list.
use Rattle.std.proofs.Common.{ℕ, zero, suc, ◌<◌, List, [], ◌∷◌, ◌++◌, length, get_or, set, arith}
use Rattle.std.specs.List.{AllByRecursion}

pub all_weaker : {X : Type 0} (P Q : X → Type 0) → ((x : X) → P x → Q x) → (xs : List X) → AllByRecursion P xs → AllByRecursion Q xs
all_weaker P Q so [] all = tt
all_weaker P Q so (x ∷ xs) all = (so x all.0, all_weaker P Q so xs all.1)

pub all_both : {X : Type 0} (P Q R : X → Type 0) → ((x : X) → P x → Q x → R x) → (xs : List X) → AllByRecursion P xs → AllByRecursion Q xs → AllByRecursion R xs
all_both P Q R so [] ps qs = tt
all_both P Q R so (x ∷ xs) ps qs = (so x ps.0 qs.0, all_both P Q R so xs ps.1 qs.1)

pub all_at : {X : Type 0} (P : X → Type 0) (xs : List X) (n : ℕ) (d : X) → AllByRecursion P xs → n < length xs → P (get_or xs n d)
all_at P [] n d all low = absurd (omega (arith, low))
all_at P (x ∷ xs) zero d all low = all.0
all_at P (x ∷ xs) (suc n) d all low = all_at P xs n d all.1 (omega (arith, low))

-- what is so of each element by its number, and of one that is put in place of another
pub set_at : {X : Type 0} (P : ℕ → X → Type 0) (xs : List X) (i j : ℕ) (x d : X) → P j (get_or xs j d) → P i x → P j (get_or (set xs i x) j d)
set_at P [] i j x d h k = h
set_at P (y ∷ xs) zero zero x d h k = k
set_at P (y ∷ xs) zero (suc j) x d h k = h
set_at P (y ∷ xs) (suc i) zero x d h k = h
set_at P (y ∷ xs) (suc i) (suc j) x d h k = set_at (λ (n : ℕ). P (suc n)) xs i j x d h k

-- and of the element that is found where there is none
pub push_default : {X : Type 0} (P : X → Type 0) (xs : List X) (i : ℕ) (d : X) → P (get_or xs i d) → P d → P (get_or (xs ++ d ∷ []) i d)
push_default P [] zero d h k = k
push_default P [] (suc i) d h k = k
push_default P (x ∷ xs) zero d h k = h
push_default P (x ∷ xs) (suc i) d h k = push_default P xs i d h k
