-- How many have a key, as one process has one or not.
use Rattle.std.proofs.Common.{◌≡◌, ℕ, zero, suc, ◌<◌, ◌≤◌, Option, None, Some, List, [], ◌∷◌, length, set, replicate, arith, refl, ap}
use Rattle.pfc_sorted.specs.Sorted.{key_at, count_keys}

pub count-more : {K : Type 0} (ms : List (Option K)) (p : ℕ) (m : K) → p < length ms → key_at ms p ≡ None → count_keys (set ms p (Some m)) ≡ suc (count_keys ms)
count-more [] p m lt none = absurd (omega (arith, lt))
count-more (None ∷ rest) zero m lt none = refl
count-more (Some n ∷ rest) zero m lt none = let no : Some n ≡ None = none in cc
count-more (None ∷ rest) (suc p) m lt none = count-more rest p m (omega (arith, lt)) none
count-more (Some n ∷ rest) (suc p) m lt none = ap (λ k. suc k) (count-more rest p m (omega (arith, lt)) none)

pub count-less : {K : Type 0} (ms : List (Option K)) (p : ℕ) (m : K) → key_at ms p ≡ Some m → suc (count_keys (set ms p None)) ≡ count_keys ms
count-less [] p m own = let no : None ≡ Some m = own in cc
count-less (None ∷ rest) zero m own = let no : None ≡ Some m = own in cc
count-less (Some n ∷ rest) zero m own = refl
count-less (None ∷ rest) (suc p) m own = count-less rest p m own
count-less (Some n ∷ rest) (suc p) m own = ap (λ k. suc k) (count-less rest p m own)

count-most : {K : Type 0} (ms : List (Option K)) → count_keys ms ≤ length ms
count-most [] = omega arith
count-most (None ∷ rest) = let le : count_keys rest ≤ length rest = count-most rest in omega (arith, le)
count-most (Some n ∷ rest) = let le : count_keys rest ≤ length rest = count-most rest in omega (arith, le)

-- where a process has no key, there is room
pub count-room : {K : Type 0} (ms : List (Option K)) (p : ℕ) → p < length ms → key_at ms p ≡ None → count_keys ms < length ms
count-room [] p lt none = absurd (omega (arith, lt))
count-room (None ∷ rest) zero lt none = let le : count_keys rest ≤ length rest = count-most rest in omega (arith, le)
count-room (Some n ∷ rest) zero lt none = let no : Some n ≡ None = none in cc
count-room (None ∷ rest) (suc p) lt none = let less : count_keys rest < length rest = count-room rest p (omega (arith, lt)) none in omega (arith, less)
count-room (Some n ∷ rest) (suc p) lt none = let less : count_keys rest < length rest = count-room rest p (omega (arith, lt)) none in omega (arith, less)

pub count-none : (K : Type 0) (n : ℕ) → count_keys {K = K} (replicate n None) ≡ 0
count-none K zero = refl
count-none K (suc n) = count-none K n
