-- The numbers of a set, by its bits.
use Rattle.std.proofs.Common.{◌≡◌, ◌≢◌, ℕ, zero, suc, ◌+◌, ◌-◌, ◌*◌, ◌/◌, ◌%◌, ◌^◌, ◌<◌, ◌≤◌, Bool, true, false, ◌==◌, List, [], ◌∷◌, ◌++◌, length, get_or, set}
use Rattle.std.proofs.Common.{arith, refl, sym, ap, ◌∙◌, cond, subst}
use Rattle.std.specs.Prelude.{count_ones, min}
use Rattle.std.specs.Simd.Lanes.{mask_l}
use Rattle.std.proofs.lemmas.List.{length-append, get_or_append_left, get_or-append_right}
use Rattle.std.proofs.lemmas.Nat.{and_mask, div_below, mod_below, ones_le_self}
use Rattle.std.proofs.lemmas.Nat.Bits.{bit_at_lowest, bit_at-suc, bit_at-lt, bit_at_and, bit_at_ones}
use Rattle.std.proofs.lemmas.Simd.{ones-mask_l_cons}
use Rattle.std.proofs.Math.Nat.{div-div-eq-div-mul, div-one, pow-suc, pow-succ', mod-add-div}
use Rattle.std.proofs.Math.Pow.{pow_pos}
use Rattle.std.specs.Int.{bit_at}
use Rattle.std.specs.Int.Count.{count_trailing_zeros, under}
use Rattle.pfc_lists.specs.Bits.{bits, numbers_from}

pub bits-none : (w : ℕ) → bits 0 w ≡ []
unfolding bits
bits-none w = refl

pub bits-more : (k w : ℕ) → bits (suc k) w ≡ (w % 2 == 1) ∷ bits k (w / 2)
unfolding bits
bits-more k w = refl

pub bits-length : (k w : ℕ) → length (bits k w) ≡ k
bits-length zero w = ap length (bits-none w)
bits-length (suc k) w = ap length (bits-more k w) ∙ ap suc (bits-length k (w / 2))

-- the same bits
pub bits-same : (k a b : ℕ) → ((i : ℕ) → i < k → bit_at a i ≡ bit_at b i) → bits k a ≡ bits k b
bits-same zero a b h = bits-none a ∙ sym (bits-none b)
bits-same (suc k) a b h =
    bits-more k a
    ∙ ap (λ v. (v == 1) ∷ bits k (a / 2)) (sym (bit_at_lowest a) ∙ h 0 (omega arith) ∙ bit_at_lowest b)
    ∙ ap (λ v. (b % 2 == 1) ∷ v) (bits-same k (a / 2) (b / 2) (λ i lt. sym (bit_at-suc a i) ∙ h (suc i) (omega arith) ∙ bit_at-suc b i))
    ∙ sym (bits-more k b)

pub bits-at : (k w i : ℕ) → i < k → get_or (bits k w) i false ≡ (bit_at w i == 1)
bits-at zero w i lt = absurd (omega arith)
bits-at (suc k) w zero lt = ap (λ v. get_or v 0 false) (bits-more k w) ∙ ap (λ v. v == 1) (sym (bit_at_lowest w))
bits-at (suc k) w (suc i) lt =
    ap (λ v. get_or v (suc i) false) (bits-more k w) ∙ bits-at k (w / 2) i (omega arith) ∙ ap (λ v. v == 1) (sym (bit_at-suc w i))

-- one bit is changed
pub bits-set : (k a b j : ℕ) (held : Bool) → j < k → (bit_at a j == 1) ≡ held → ((i : ℕ) → i < k → i ≢ j → bit_at a i ≡ bit_at b i)
    → bits k a ≡ set (bits k b) j held
bits-set zero a b j held lt is others = absurd (omega arith)
bits-set (suc k) a b zero held lt is others =
    bits-more k a
    ∙ ap (λ v. v ∷ bits k (a / 2)) (ap (λ v. v == 1) (sym (bit_at_lowest a)) ∙ is)
    ∙ ap (λ v. held ∷ v) (bits-same k (a / 2) (b / 2) (λ i lt. sym (bit_at-suc a i) ∙
    others (suc i) (omega arith) (λ e. absurd (omega (arith, e))) ∙ bit_at-suc b i))
    ∙ ap (λ v. set v 0 held) (sym (bits-more k b))
bits-set (suc k) a b (suc j) held lt is others =
    bits-more k a
    ∙ ap (λ v. (v == 1) ∷ bits k (a / 2)) (sym (bit_at_lowest a) ∙ others 0 (omega arith) (λ e. absurd (omega (arith, e))) ∙ bit_at_lowest b)
    ∙ ap (λ v. (b % 2 == 1) ∷ v)
    (bits-set k (a / 2) (b / 2) j held (omega arith) (ap (λ v. v == 1) (sym (bit_at-suc a j)) ∙ is)
    (λ i lt ne. sym (bit_at-suc a i) ∙ others (suc i) (omega arith) (λ e. ne (omega (arith, e))) ∙ bit_at-suc b i))
    ∙ ap (λ v. set v (suc j) held) (sym (bits-more k b))

-- the low bits, and the others
pub bits-cut : (j k w : ℕ) → bits (j + k) w ≡ bits j w ++ bits k (w / 2 ^ j)
bits-cut zero k w =
    let n : 0 + k ≡ k = omega arith in
    ap (λ v. bits v w) n ∙ ap (λ v. bits k v) (sym (div-one w)) ∙ ap (λ v. v ++ bits k (w / 2 ^ 0)) (sym (bits-none w))
bits-cut (suc j) k w =
    let n : suc j + k ≡ suc (j + k) = omega arith in
    ap (λ v. bits v w) n
    ∙ bits-more (j + k) w
    ∙ ap (λ v. (w % 2 == 1) ∷ v) (bits-cut j k (w / 2))
    ∙ ap (λ v. (w % 2 == 1) ∷ (bits j (w / 2) ++ bits k v)) (div-div-eq-div-mul w 2 (2 ^ j) ∙ ap (λ v. w / v) (sym (pow-succ' 2 j)))
    ∙ ap (λ v. v ++ bits k (w / 2 ^ suc j)) (sym (bits-more j w))

pub numbers-append : (n : ℕ) (xs ys : List Bool) → numbers_from n (xs ++ ys) ≡ numbers_from n xs ++ numbers_from (n + length xs) ys
numbers-append n [] ys = let e : n ≡ n + 0 = omega arith in ap (λ v. numbers_from v ys) e
numbers-append n (x ∷ xs) ys =
    let e : n + 1 + length xs ≡ n + suc (length xs) = omega arith in
    let ih : numbers_from (n + 1) (xs ++ ys) ≡ numbers_from (n + 1) xs ++ numbers_from (n + suc (length xs)) ys =
    numbers-append (n + 1) xs ys ∙ ap (λ v. numbers_from (n + 1) xs ++ numbers_from v ys) e in
    go x ih
  where
    go : (b : Bool) → numbers_from (n + 1) (xs ++ ys) ≡ numbers_from (n + 1) xs ++ numbers_from (n + suc (length xs)) ys
        → cond b (n ∷ numbers_from (n + 1) (xs ++ ys)) (numbers_from (n + 1) (xs ++ ys))
        ≡ cond b (n ∷ numbers_from (n + 1) xs) (numbers_from (n + 1) xs) ++ numbers_from (n + suc (length xs)) ys
    go true ih = ap (λ v. n ∷ v) ih
    go false ih = ih

pub numbers-few : (n : ℕ) (bs : List Bool) → length (numbers_from n bs) ≤ length bs
numbers-few n [] = omega arith
numbers-few n (b ∷ bs) = go b (numbers-few (n + 1) bs)
  where
    go : (b : Bool) → length (numbers_from (n + 1) bs) ≤ length bs → length (cond b (n ∷ numbers_from (n + 1) bs) (numbers_from (n + 1) bs)) ≤ suc (length bs)
    go true ih = omega arith
    go false ih = omega arith

-- how many numbers there are, by the ones of the word
numbers-ones : (n : ℕ) (bs : List Bool) → length (numbers_from n bs) ≡ count_ones (mask_l bs)
numbers-ones n [] = let le : count_ones 0 ≤ 0 = ones_le_self 0 in omega (arith, le)
numbers-ones n (b ∷ bs) = go b (numbers-ones (n + 1) bs) ∙ sym (ones-mask_l_cons b bs)
  where
    go : (b : Bool) → length (numbers_from (n + 1) bs) ≡ count_ones (mask_l bs)
        → length (cond b (n ∷ numbers_from (n + 1) bs) (numbers_from (n + 1) bs)) ≡ cond b 1 0 + count_ones (mask_l bs)
    go true ih = omega (arith, ih)
    go false ih = omega (arith, ih)

odd-part : (r : ℕ) → r < 2 → cond (r == 1) 1 0 ≡ r
odd-part zero lt = refl
odd-part (suc zero) lt = refl
odd-part (suc (suc r)) lt = absurd (omega (arith, lt))

mask-bits : (k w : ℕ) → w < 2 ^ k → mask_l (bits k w) ≡ w
mask-bits zero w lt = ap mask_l (bits-none w) ∙ (let e : 0 ≡ w = omega (arith, lt) in e)
mask-bits (suc k) w lt =
    let half : w / 2 < 2 ^ k = div_below w 2 (2 ^ k) (omega arith) (subst (λ v. w < v) (pow-suc 2 k) lt) in
    let low : w % 2 < 2 = mod_below w 2 (omega arith) in
    let e : w % 2 + 2 * (w / 2) ≡ w = mod-add-div w 2 in
    ap mask_l (bits-more k w)
    ∙ ap (λ v. v + 2 * mask_l (bits k (w / 2))) (odd-part (w % 2) low)
    ∙ ap (λ v. w % 2 + 2 * v) (mask-bits k (w / 2) half)
    ∙ e

pub ones-bits : (n k w : ℕ) → w < 2 ^ k → length (numbers_from n (bits k w)) ≡ count_ones w
ones-bits n k w lt = numbers-ones n (bits k w) ∙ ap count_ones (mask-bits k w lt)

low-bit : (w k i : ℕ) → i < k → bit_at (w % 2 ^ k) i ≡ bit_at w i
low-bit w k i lt =
    let one : bit_at w i < 2 = bit_at-lt w i in
    let is : min (bit_at w i) 1 ≡ bit_at w i = grind (arith, one) in
    ap (λ v. bit_at v i) (sym (and_mask w k)) ∙ bit_at_and w (2 ^ k - 1) i ∙ ap (λ v. min (bit_at w i) v) (bit_at_ones k i lt) ∙ is

pub bits-low : (k w : ℕ) → bits k (w % 2 ^ k) ≡ bits k w
bits-low k w = bits-same k (w % 2 ^ k) w (λ i lt. low-bit w k i lt)

-- the numbers of the two halves
pub halves : (n k w : ℕ) → numbers_from n (bits (k + k) w) ≡ numbers_from n (bits k (w % 2 ^ k)) ++ numbers_from (n + k) (bits k (w / 2 ^ k))
halves n k w =
    ap (numbers_from n) (bits-cut k k w)
    ∙ numbers-append n (bits k w) (bits k (w / 2 ^ k))
    ∙ ap (λ v. numbers_from n (bits k w) ++ numbers_from (n + v) (bits k (w / 2 ^ k))) (bits-length k w)
    ∙ ap (λ v. numbers_from n v ++ numbers_from (n + k) (bits k (w / 2 ^ k))) (sym (bits-low k w))

low-count : (n k w : ℕ) → length (numbers_from n (bits k (w % 2 ^ k))) ≡ count_ones (w % 2 ^ k)
low-count n k w = ones-bits n k (w % 2 ^ k) (mod_below w (2 ^ k) (pow_pos k))

pub in-low : (n k w b : ℕ) → b < count_ones (w % 2 ^ k) → b < length (numbers_from n (bits k (w % 2 ^ k)))
in-low n k w b lt = subst (λ v. b < v) (sym (low-count n k w)) lt

pub same-low : (n k w b : ℕ) → b < count_ones (w % 2 ^ k) → get_or (numbers_from n (bits k (w % 2 ^ k))) b 0 ≡ get_or (numbers_from n (bits (k + k) w)) b 0
same-low n k w b lt =
    sym (get_or_append_left (numbers_from n (bits k (w % 2 ^ k))) (numbers_from (n + k) (bits k (w / 2 ^ k))) 0 b (in-low n k w b lt))
    ∙ ap (λ v. get_or v b 0) (sym (halves n k w))

pub in-high : (n k w b : ℕ) → count_ones (w % 2 ^ k) ≤ b → b < length (numbers_from n (bits (k + k) w)) →
    b - count_ones (w % 2 ^ k) < length (numbers_from (n + k) (bits k (w / 2 ^ k)))
in-high n k w b le lt =
    let all : length (numbers_from n (bits (k + k) w)) ≡ count_ones (w % 2 ^ k) + length (numbers_from (n + k) (bits k (w / 2 ^ k))) =
    ap length (halves n k w) ∙ length-append (numbers_from n (bits k (w % 2 ^ k))) (numbers_from (n + k) (bits k (w / 2 ^ k)))
    ∙ ap (λ v. v + length (numbers_from (n + k) (bits k (w / 2 ^ k)))) (low-count n k w) in
    omega (arith, all, lt, le)

pub same-high : (n k w b : ℕ) → count_ones (w % 2 ^ k) ≤ b
    → get_or (numbers_from (n + k) (bits k (w / 2 ^ k))) (b - count_ones (w % 2 ^ k)) 0 ≡ get_or (numbers_from n (bits (k + k) w)) b 0
same-high n k w b le =
    sym (get_or-append_right (numbers_from n (bits k (w % 2 ^ k))) (numbers_from (n + k) (bits k (w / 2 ^ k)))
    (count_ones (w % 2 ^ k)) b 0 (low-count n k w) le)
    ∙ ap (λ v. get_or v b 0) (sym (halves n k w))

-- among one bit there is one number
pub one-number : (n w b : ℕ) → b < length (numbers_from n (bits 1 w)) → get_or (numbers_from n (bits 1 w)) b 0 ≡ n
one-number n w b lt = ap (λ v. get_or (numbers_from n v) b 0) one ∙ go (w % 2 == 1) b (subst (λ v. b < length (numbers_from n v)) one lt)
  where
    one : bits 1 w ≡ (w % 2 == 1) ∷ []
    one = bits-more 0 w ∙ ap (λ v. (w % 2 == 1) ∷ v) (bits-none (w / 2))

    go : (held : Bool) (b : ℕ) → b < length (cond held (n ∷ []) []) → get_or (cond held (n ∷ []) []) b 0 ≡ n
    go true zero lt = refl
    go true (suc b) lt = absurd (omega (arith, lt))
    go false b lt = absurd (omega (arith, lt))

-- the lowest number, by the zeros below the lowest one
pub lowest-number : (k n w : ℕ) → 0 < length (numbers_from n (bits k w)) → get_or (numbers_from n (bits k w)) 0 0 ≡ n + count_trailing_zeros k w
unfolding count_trailing_zeros
lowest-number zero n w lt = absurd (let none : length (numbers_from n (bits 0 w)) ≡ 0 =
    ap (λ v. length (numbers_from n v)) (bits-none w) in omega (arith, lt, none))
lowest-number (suc k) n w lt =
    let low : w % 2 < 2 = mod_below w 2 (omega arith) in
    ap (λ v. get_or (numbers_from n v) 0 0) (bits-more k w)
    ∙ go (lowest-number k (n + 1) (w / 2)) (w % 2) low (subst (λ v. 0 < length (numbers_from n v)) (bits-more k w) lt)
  where
    rest : List Bool
    rest = bits k (w / 2)

    go : (0 < length (numbers_from (n + 1) rest) → get_or (numbers_from (n + 1) rest) 0 0 ≡ n + 1 + count_trailing_zeros k (w / 2))
        → (r : ℕ) → r < 2 → 0 < length (numbers_from n ((r == 1) ∷ rest)) →
        get_or (numbers_from n ((r == 1) ∷ rest)) 0 0 ≡ n + under r (count_trailing_zeros k (w / 2))
    go next zero less there = let ih : get_or (numbers_from (n + 1) rest) 0 0 ≡ n + 1 + count_trailing_zeros k (w / 2) = next there in omega (arith, ih)
    go next (suc zero) less there = omega arith
    go next (suc (suc r)) less there = absurd (omega (arith, less))
