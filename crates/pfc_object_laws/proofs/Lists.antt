-- Places in lists that are made of others.
use Rattle.std.proofs.Common.{◌≡◌, ℕ, zero, suc, ◌+◌, ◌*◌, ◌<◌, Bool, pos, List, [], ◌∷◌, ◌++◌, length, slice_get, if◌then◌else◌, Some, refl, ap, ◌∙◌, arith}
use Rattle.std.proofs.Common.{length-append}
use Rattle.pfc_translation.specs.Objects.{times}
use Rattle.pfc_object_laws.specs.Objects.{marked}

-- ## One behind the other

pub get_left : {X : Type 0} (a b : List X) (k : ℕ) (x : X) → slice_get a k ≡ Some x → slice_get (a ++ b) k ≡ Some x
get_left [] b k x e = absurd (cc)
get_left (y ∷ a) b zero x e = e
get_left (y ∷ a) b (suc k) x e = get_left a b k x e

pub get_right : {X : Type 0} (a b : List X) (k : ℕ) → slice_get (a ++ b) (length a + k) ≡ slice_get b k
get_right [] b k = ap (λ n. slice_get b n) (none_before k)
  where
    none_before : (n : ℕ) → 0 + n ≡ n
    none_before n = omega arith
get_right (y ∷ a) b k = ap (λ n. slice_get (y ∷ (a ++ b)) n) (one_before (length a) k) ∙ get_right a b k
  where
    one_before : (m n : ℕ) → suc m + n ≡ suc (m + n)
    one_before m n = omega arith

pub get_right_at : {X : Type 0} (a b : List X) (n k : ℕ) → n ≡ length a + k → slice_get (a ++ b) n ≡ slice_get b k
get_right_at a b n k e = ap (λ m. slice_get (a ++ b) m) e ∙ get_right a b k

-- what stands in both stands in the one or in the other
pub data Either {X : Type 0} (a b : List X) (k : ℕ) (x : X) : Type 0 where
  in_left : slice_get a k ≡ Some x → Either a b k x
  in_right : (j : ℕ) → k ≡ length a + j → slice_get b j ≡ Some x → Either a b k x

pub either : {X : Type 0} (a b : List X) (k : ℕ) (x : X) → slice_get (a ++ b) k ≡ Some x → Either a b k x
either [] b k x e = in_right k (omega arith) e
either (y ∷ a) b zero x e = in_left e
either (y ∷ a) b (suc k) x e = by (either a b k x e)
  where
    by : Either a b k x → Either (y ∷ a) b (suc k) x
    by (in_left h) = in_left h
    by (in_right j n h) = in_right j (omega (arith, n)) h

-- ## As often

pub times_length : (n : ℕ) (xs : List Bool) → length (times n xs) ≡ n * length xs
times_length zero xs = omega arith
times_length (suc n) xs = let rest = times_length n xs in length-append xs (times n xs) ∙ omega (arith, rest)

pub times_at : (n i : ℕ) (xs : List Bool) (j : ℕ) (x : Bool) → i < n → slice_get xs j ≡ Some x → slice_get (times n xs) (i * length xs + j) ≡ Some x
times_at zero i xs j x below e = absurd (omega (arith, below))
times_at (suc n) zero xs j x below e = ap (λ k. slice_get (xs ++ times n xs) k) (omega arith) ∙ get_left xs (times n xs) j x e
times_at (suc n) (suc i) xs j x below e =
    get_right_at xs (times n xs) (suc i * length xs + j) (i * length xs + j) (omega arith) ∙ times_at n i xs j x (omega (arith, below)) e

-- where something stands in a list that is repeated
pub record InTimes (n : ℕ) (xs : List Bool) (k : ℕ) (x : Bool) : Type 0 where
  pub i : ℕ
  pub j : ℕ
  pub below : i < n
  pub place : k ≡ i * length xs + j
  pub there : slice_get xs j ≡ Some x

pub in_times : (n : ℕ) (xs : List Bool) (k : ℕ) (x : Bool) → slice_get (times n xs) k ≡ Some x → InTimes n xs k x
in_times zero xs k x e = absurd (cc)
in_times (suc n) xs k x e = by (λ j h. in_times n xs j x h) (either xs (times n xs) k x e)
  where
    by : ((j : ℕ) → slice_get (times n xs) j ≡ Some x → InTimes n xs j x) → Either xs (times n xs) k x → InTimes (suc n) xs k x
    by rest (in_left h) = record { i = 0; j = k; below = omega arith; place = omega arith; there = h }
    by rest (in_right j m h) =
        let inner = rest j h in
        let at : j ≡ inner.i * length xs + inner.j = inner.place in
        record { i = suc inner.i; j = inner.j; below = omega (arith, inner.below); place = omega (arith, m, at); there = inner.there }

-- ## Words of objects

pub marked_append : (a b : List Bool) (m n : List ℕ) → length m ≡ length a → marked (a ++ b) (m ++ n) ≡ marked a m ++ marked b n
marked_append [] b [] n e = refl
marked_append [] b (y ∷ m) n e = absurd (omega (arith, e))
marked_append (x ∷ a) b [] n e = absurd (omega (arith, e))
marked_append (x ∷ a) b (y ∷ m) n e = ap (λ ws. (if x then pos y else pos 0) ∷ ws) (marked_append a b m n (omega (arith, e)))

pub marked_length : (a : List Bool) (m : List ℕ) → length m ≡ length a → length (marked a m) ≡ length a
marked_length [] m e = refl
marked_length (x ∷ a) [] e = e
marked_length (x ∷ a) (y ∷ m) e = ap suc (marked_length a m (omega (arith, e)))
