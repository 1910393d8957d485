-- Elements of lists that are joined, or of which the first are dropped.
use Rattle.std.proofs.Common.{◌≡◌, ℕ, zero, suc, ◌+◌, ◌-◌, ◌<◌, ◌≤◌, List, [], ◌∷◌, ◌++◌, length, drop, slice_get, Some, refl, ap, ◌∙◌, arith}

pub slice_front : {A : Type 0} (xs ys : List A) (k : ℕ) → k < length xs → slice_get (xs ++ ys) k ≡ slice_get xs k
slice_front [] ys k h = absurd (omega (arith, h))
slice_front (x ∷ xs) ys zero h = refl
slice_front (x ∷ xs) ys (suc k) h = slice_front xs ys k (omega (arith, h))

pub slice_back : {A : Type 0} (xs ys : List A) (k : ℕ) → length xs ≤ k → slice_get (xs ++ ys) k ≡ slice_get ys (k - length xs)
slice_back [] ys k h = ap (λ n. slice_get ys n) (omega arith)
slice_back (x ∷ xs) ys zero h = absurd (omega (arith, h))
slice_back (x ∷ xs) ys (suc k) h = slice_back xs ys k (omega (arith, h)) ∙ ap (λ n. slice_get ys n) (omega arith)

pub slice_dropped : {A : Type 0} (l : ℕ) (xs : List A) (k : ℕ) → slice_get (drop l xs) k ≡ slice_get xs (l + k)
slice_dropped zero xs k = (let same : k ≡ 0 + k = omega arith in ap (λ n. slice_get xs n) same)
slice_dropped (suc l) [] k = refl
slice_dropped (suc l) (x ∷ xs) k = (let same : suc (l + k) ≡ suc l + k = omega arith in slice_dropped l xs k ∙ ap (λ n. slice_get (x ∷ xs) n) same)

pub slice_at : {A : Type 0} (xs : List A) (k : ℕ) → k < length xs → (x : A) × (slice_get xs k ≡ Some x)
slice_at [] k h = absurd (omega (arith, h))
slice_at (x ∷ xs) zero h = (x, refl)
slice_at (x ∷ xs) (suc k) h = slice_at xs k (omega (arith, h))

pub none_left : {A : Type 0} (l : ℕ) (xs : List A) → length xs ≤ l → drop l xs ≡ []
none_left zero [] h = refl
none_left zero (x ∷ xs) h = absurd (omega (arith, h))
none_left (suc l) [] h = refl
none_left (suc l) (x ∷ xs) h = none_left l xs (omega (arith, h))
