-- Callers that are met are fewer than the processes: none is there twice, and the owner is not among them.
use Rattle.std.proofs.Common.{◌≡◌, ◌≢◌, ℕ, zero, suc, ◌+◌, ◌<◌, ◌≤◌, ◌==◌, Bool, true, false, ◌||◌, if◌then◌else◌, List, [], ◌∷◌, length, get_or, slice_get}
use Rattle.std.proofs.Common.{Some, None, refl, sym, ap, ap₂, ◌∙◌, subst, arith, ◌⊎◌, inl, inr}
use Rattle.std.specs.List.{list_any}
use Rattle.pfc_call_laws.proofs.Displays.{is_same, is_other, any_at}

-- no number is there twice
abbrev pub IsOnce : List ℕ → Type 0
IsOnce xs = (j k r : ℕ) → slice_get xs j ≡ Some r → slice_get xs k ≡ Some r → j ≡ k

-- what a list has at a place
pub found_at : (xs : List ℕ) (k r d : ℕ) → slice_get xs k ≡ Some r → (k < length xs) × (get_or xs k d ≡ r)
found_at [] k r d is = absurd (let no : None ≡ Some r = is in (let none : ⊥ = cc in none))
found_at (x ∷ xs) zero r d is = (first (length xs), (let both : Some x ≡ Some r = is in cc))
  where
    first : (n : ℕ) → 0 < suc n
    first n = grind arith
found_at (x ∷ xs) (suc k) r d is = (let one = found_at xs k r d is in (more k (length xs) one.0, one.1))
  where
    more : (k n : ℕ) → k < n → suc k < suc n
    more k n h = grind (arith, h)

-- how many of the first numbers are so
abbrev counted : ℕ → (ℕ → Bool) → ℕ
counted zero f = 0
counted (suc n) f = (if f n then 1 else 0) + counted n f

one_at_most : (b : Bool) → (if b then 1 else 0) ≤ 1
one_at_most true = grind arith
one_at_most false = grind arith

at_most : (n : ℕ) (f : ℕ → Bool) → counted n f ≤ n
at_most zero f = grind arith
at_most (suc n) f = both (if f n then 1 else 0) (counted n f) n (one_at_most (f n)) (at_most n f)
  where
    both : (i j n : ℕ) → i ≤ 1 → j ≤ n → i + j ≤ suc n
    both i j n one two = grind (arith, one, two)

either : (n k : ℕ) → n < suc k → (n ≡ k) ⊎ (n < k)
either n k less = grind (arith, less)

less_where : (n : ℕ) (f : ℕ → Bool) (k : ℕ) → k < n → f k ≡ false → counted n f < n
less_where zero f k less none = absurd (never k less)
  where
    never : (k : ℕ) → k < 0 → ⊥
    never k less = grind (arith, less)
less_where (suc n) f k less none = by (either k n less) (λ below. less_where n f k below none)
  where
    here : (i j n : ℕ) → i ≡ 0 → j ≤ n → i + j < suc n
    here i j n one two = grind (arith, one, two)

    there : (i j n : ℕ) → i ≤ 1 → j < n → i + j < suc n
    there i j n one two = grind (arith, one, two)

    by : (k ≡ n) ⊎ (k < n) → (k < n → counted n f < n) → (if f n then 1 else 0) + counted n f < suc n
    by (inl same) others =
        here (if f n then 1 else 0) (counted n f) n (ap (λ (b : Bool). if b then 1 else 0) (ap (λ j. f j) (sym same) ∙ none)) (at_most n f)
    by (inr below) others = there (if f n then 1 else 0) (counted n f) n (one_at_most (f n)) (others below)

beyond : (n x : ℕ) (f : ℕ → Bool) → n ≤ x → counted n (λ j. x == j || f j) ≡ counted n f
beyond zero x f above = refl
beyond (suc n) x f above =
    ap₂ (λ i j. i + j) (ap (λ (b : Bool). if b || f n then 1 else 0) (is_other x n (apart n x above))) (beyond n x f (before n x above))
  where
    apart : (n x : ℕ) → suc n ≤ x → x ≢ n
    apart n x above same = grind (arith, above, same)

    before : (n x : ℕ) → suc n ≤ x → n ≤ x
    before n x above = grind (arith, above)

one_more : (n x : ℕ) (f : ℕ → Bool) → x < n → f x ≡ false → counted n (λ j. x == j || f j) ≡ suc (counted n f)
one_more zero x f less none = absurd (never x less)
  where
    never : (k : ℕ) → k < 0 → ⊥
    never k less = grind (arith, less)
one_more (suc n) x f less none = by (either x n less) (λ below. one_more n x f below none)
  where
    first : (i j k l : ℕ) → i ≡ 1 → j ≡ l → k ≡ 0 → i + j ≡ suc (k + l)
    first i j k l one two three = grind (arith, one, two, three)

    later : (i j k l : ℕ) → i ≡ k → j ≡ suc l → i + j ≡ suc (k + l)
    later i j k l one two = grind (arith, one, two)

    apart : (x n : ℕ) → x < n → x ≢ n
    apart x n less same = grind (arith, less, same)

    self : (n : ℕ) → n ≤ n
    self n = grind arith

    by : (x ≡ n) ⊎ (x < n) → (x < n → counted n (λ j. x == j || f j) ≡ suc (counted n f))
        → (if x == n || f n then 1 else 0) + counted n (λ j. x == j || f j) ≡ suc ((if f n then 1 else 0) + counted n f)
    by (inl same) others =
        first (if x == n || f n then 1 else 0) (counted n (λ j. x == j || f j)) (if f n then 1 else 0) (counted n f)
        (ap (λ (b : Bool). if b || f n then 1 else 0) (is_same x n same)) (beyond n x f (subst (λ k. n ≤ k) (sym same) (self n)))
        (ap (λ (b : Bool). if b then 1 else 0) (ap (λ j. f j) (sym same) ∙ none))
    by (inr below) others =
        later (if x == n || f n then 1 else 0) (counted n (λ j. x == j || f j)) (if f n then 1 else 0) (counted n f)
        (ap (λ (b : Bool). if b || f n then 1 else 0) (is_other x n (apart x n below))) (others below)

bit_false : (c : Bool) → (c ≡ true → ⊥) → c ≡ false
bit_false true h = absurd (h refl)
bit_false false h = refl

all_counted : (n : ℕ) (xs : List ℕ) → IsOnce xs → ((k r : ℕ) → slice_get xs k ≡ Some r → r < n)
    → counted n (λ j. list_any (λ i. i == j) xs) ≡ length xs
all_counted n [] once below = none n
  where
    less_zero : (k : ℕ) → k ≡ 0 → 0 + k ≡ 0
    less_zero k is = grind (arith, is)

    none : (n : ℕ) → counted n (λ j. false) ≡ 0
    none zero = refl
    none (suc n) = less_zero (counted n (λ j. false)) (none n)
all_counted n (x ∷ xs) once below =
    one_more n x (λ j. list_any (λ i. i == j) xs) (below 0 x refl) (bit_false (list_any (λ i. i == x) xs) not_later)
    ∙ ap (λ k. suc k) (all_counted n xs (λ j k r one two. less j k (once (suc j) (suc k) r one two)) (λ k r there. below (suc k) r there))
  where
    less : (j k : ℕ) → suc j ≡ suc k → j ≡ k
    less j k h = grind (arith, h)

    never : (k : ℕ) → 0 ≡ suc k → ⊥
    never k h = grind (arith, h)

    not_later : list_any (λ i. i == x) xs ≡ true → ⊥
    not_later is = (let there = any_at x xs is in never there.0 (once 0 (suc there.0) x refl there.1))

-- fewer than the numbers below one, where one of these is not among them
pub are_fewer : (n p : ℕ) (xs : List ℕ) → IsOnce xs → ((k r : ℕ) → slice_get xs k ≡ Some r → r < n) → p < n
    → ((k : ℕ) → slice_get xs k ≡ Some p → ⊥) → length xs < n
are_fewer n p xs once below inside apart =
    subst (λ k. k < n) (all_counted n xs once below)
    (less_where n (λ j. list_any (λ i. i == j) xs) p inside
    (bit_false (list_any (λ i. i == p) xs) (λ is. let there = any_at p xs is in apart there.0 there.1)))
