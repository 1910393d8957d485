-- The bits of several words, and how many numbers there are in them.
use Rattle.std.proofs.Common.{◌≡◌, ℕ, zero, suc, ◌+◌, ◌-◌, ◌*◌, ◌/◌, ◌%◌, ◌^◌, ◌<◌, ◌≤◌, Bool, true, false, List, [], ◌∷◌, ◌++◌, length, get_or, set, take}
use Rattle.std.proofs.Common.{drop, replicate, arith, refl, sym, ap, ◌∙◌, cond, subst}
use mir.Val.{bool_byte}
use Rattle.std.proofs.lemmas.List.{length-append, append-nil, append_assoc, get_or_append_left, get_or-append_right, get_or_default, length-take-le, take_at}
use Rattle.std.proofs.lemmas.List.{take_more, take-append-le, set-append_left, set-append_right}
use Rattle.std.proofs.lemmas.Nat.{div_below, mod_below, pow_pos, pow_below}
use Rattle.std.proofs.lemmas.Nat.{zero_from_ones}
use Rattle.std.proofs.Math.Nat.{div-add-mod}
use Rattle.std.proofs.Math.Seq.{take-append-add}
use Rattle.pfc_lists.specs.Bits.{bits, flags, numbers_from, numbers}
use Rattle.pfc_lists.proofs.Bits.{bits-none, bits-more, bits-length, bits-cut, numbers-append, bits-low, ones-bits}

pub flags-none : flags [] ≡ []
unfolding flags
flags-none = refl

pub flags-more : (w : ℕ) (ws : List ℕ) → flags (w ∷ ws) ≡ bits 64 w ++ flags ws
unfolding flags
flags-more w ws = refl

pub flags-length : (ws : List ℕ) → length (flags ws) ≡ 64 * length ws
flags-length [] = ap length flags-none
flags-length (w ∷ ws) =
    let ih : length (flags ws) ≡ 64 * length ws = flags-length ws in
    let one : length (bits 64 w) ≡ 64 = bits-length 64 w in
    let both : length (bits 64 w ++ flags ws) ≡ length (bits 64 w) + length (flags ws) = length-append (bits 64 w) (flags ws) in
    ap length (flags-more w ws) ∙ omega (arith, ih, one, both)

-- a number's word is there
pub word-within : (ws : List ℕ) (n : ℕ) → n < length (flags ws) → n / 64 < length ws
word-within ws n lt =
    let all : length (flags ws) ≡ 64 * length ws = flags-length ws in
    div_below n 64 (length ws) (omega arith) (omega (arith, lt, all))

pub bit-within : (n : ℕ) → n % 64 < 64
bit-within n = mod_below n 64 (omega arith)

pub number-is : (n : ℕ) → 64 * (n / 64) + n % 64 ≡ n
number-is n = div-add-mod n 64

-- the bits of a word are those of its place
pub flags-at : (ws : List ℕ) (k j x : ℕ) → k < length ws → x ≡ get_or ws k x → j < 64 → get_or (flags ws) (64 * k + j) false ≡ get_or (bits 64 x) j false
flags-at [] k j x lt is within = absurd (omega (arith, lt))
flags-at (w ∷ ws) zero j x lt is within =
    let n : 64 * 0 + j ≡ j = omega arith in
    let room : j < length (bits 64 w) = subst (λ v. j < v) (sym (bits-length 64 w)) within in
    ap (λ v. get_or (flags (w ∷ ws)) v false) n
    ∙ ap (λ v. get_or v j false) (flags-more w ws)
    ∙ get_or_append_left (bits 64 w) (flags ws) false j room
    ∙ ap (λ v. get_or (bits 64 v) j false) (sym is)
flags-at (w ∷ ws) (suc k) j x lt is within =
    let n : 64 * suc k + j - 64 ≡ 64 * k + j = omega arith in
    let le : 64 ≤ 64 * suc k + j = omega arith in
    ap (λ v. get_or v (64 * suc k + j) false) (flags-more w ws)
    ∙ get_or-append_right (bits 64 w) (flags ws) 64 (64 * suc k + j) false (bits-length 64 w) le
    ∙ ap (λ v. get_or (flags ws) v false) n
    ∙ flags-at ws k j x (omega (arith, lt)) is within

-- a word is changed at one bit
pub flags-set : (ws : List ℕ) (k j x y : ℕ) (held : Bool) → k < length ws → x ≡ get_or ws k x → j < 64 → bits 64 y ≡ set (bits 64 x) j held
    → flags (set ws k y) ≡ set (flags ws) (64 * k + j) held
flags-set [] k j x y held lt is within one = absurd (omega (arith, lt))
flags-set (w ∷ ws) zero j x y held lt is within one =
    let n : j ≡ 64 * 0 + j = omega arith in
    let room : j < length (bits 64 w) = subst (λ v. j < v) (sym (bits-length 64 w)) within in
    flags-more y ws
    ∙ ap (λ v. v ++ flags ws) (one ∙ ap (λ v. set (bits 64 v) j held) is)
    ∙ sym (set-append_left (bits 64 w) (flags ws) j held room)
    ∙ ap (λ v. set v j held) (sym (flags-more w ws))
    ∙ ap (λ v. set (flags (w ∷ ws)) v held) n
flags-set (w ∷ ws) (suc k) j x y held lt is within one =
    let n : 64 * k + j ≡ 64 * suc k + j - 64 = omega arith in
    let le : 64 ≤ 64 * suc k + j = omega arith in
    flags-more w (set ws k y)
    ∙ ap (λ v. bits 64 w ++ v) (flags-set ws k j x y held (omega (arith, lt)) is within one)
    ∙ ap (λ v. bits 64 w ++ set (flags ws) v held) n
    ∙ sym (set-append_right (bits 64 w) (flags ws) 64 (64 * suc k + j) held (bits-length 64 w) le)
    ∙ ap (λ v. set v (64 * suc k + j) held) (sym (flags-more w ws))

pub flags-push : (ws : List ℕ) (w : ℕ) → flags (ws ++ w ∷ []) ≡ flags ws ++ bits 64 w
flags-push [] w = flags-more w [] ∙ ap (λ v. bits 64 w ++ v) flags-none ∙ append-nil (bits 64 w) ∙ ap (λ v. v ++ bits 64 w) (sym flags-none)
flags-push (v ∷ ws) w =
    flags-more v (ws ++ w ∷ []) ∙ ap (λ u. bits 64 v ++ u) (flags-push ws w) ∙ sym (append_assoc (bits 64 v) (flags ws) (bits 64 w))
    ∙ ap (λ u. u ++ bits 64 w) (sym (flags-more v ws))

-- the bits below a place
bits-take : (j k w : ℕ) → take j (bits (j + k) w) ≡ bits j w
bits-take j k w = ap (take j) (bits-cut j k w) ∙ take_at (bits j w) (bits k (w / 2 ^ j)) j (bits-length j w)

pub flags-take : (ws : List ℕ) (k j x : ℕ) → k < length ws → x ≡ get_or ws k x → j < 64 → take (64 * k + j) (flags ws) ≡ flags (take k ws) ++ bits j x
flags-take [] k j x lt is within = absurd (omega (arith, lt))
flags-take (w ∷ ws) zero j x lt is within =
    let n : 64 * 0 + j ≡ j = omega arith in
    let m : j + (64 - j) ≡ 64 = omega (arith, within) in
    let room : j ≤ length (bits 64 w) = subst (λ v. j ≤ v) (sym (bits-length 64 w)) (omega (arith, within)) in
    ap (λ v. take v (flags (w ∷ ws))) n
    ∙ ap (take j) (flags-more w ws)
    ∙ take-append-le j (bits 64 w) (flags ws) room
    ∙ ap (λ v. take j (bits v w)) (sym m)
    ∙ bits-take j (64 - j) w
    ∙ ap (bits j) (sym is)
    ∙ ap (λ v. v ++ bits j x) (sym flags-none)
flags-take (w ∷ ws) (suc k) j x lt is within =
    let n : 64 * suc k + j ≡ 64 + (64 * k + j) = omega arith in
    ap (λ v. take v (flags (w ∷ ws))) n
    ∙ ap (take (64 + (64 * k + j))) (flags-more w ws)
    ∙ (let e : 64 + (64 * k + j) ≡ length (bits 64 w) + (64 * k + j) =
    ap (λ v. v + (64 * k + j)) (sym (bits-length 64 w)) in ap (λ v. take v (bits 64 w ++ flags ws)) e)
    ∙ take-append-add (bits 64 w) (flags ws) (64 * k + j)
    ∙ ap (λ v. bits 64 w ++ v) (flags-take ws k j x (omega (arith, lt)) is within)
    ∙ sym (append_assoc (bits 64 w) (flags (take k ws)) (bits j x))
    ∙ ap (λ v. v ++ bits j x) (sym (flags-more w (take k ws)))

-- the numbers below a place: those of the words before, and of the low bits
pub numbers-below : (ws : List ℕ) (n x : ℕ) → n / 64 < length ws → x ≡ get_or ws (n / 64) x
    → length (numbers (take n (flags ws))) ≡ length (numbers (flags (take (n / 64) ws))) + length
    (numbers_from (length (flags (take (n / 64) ws))) (bits (n % 64) x))
numbers-below ws n x lt is =
    ap (λ v. length (numbers (take v (flags ws)))) (sym (number-is n))
    ∙ ap (λ v. length (numbers v)) (flags-take ws (n / 64) (n % 64) x lt is (bit-within n))
    ∙ ap length (numbers-append 0 (flags (take (n / 64) ws)) (bits (n % 64) x))
    ∙ length-append (numbers (flags (take (n / 64) ws))) (numbers_from (0 + length (flags (take (n / 64) ws))) (bits (n % 64) x))
    ∙ ap (λ v. length (numbers (flags (take (n / 64) ws))) + length (numbers_from v (bits (n % 64) x))) (let e : 0 + length (flags (take (n / 64) ws)) ≡ length
    (flags (take (n / 64) ws)) = omega arith in e)

-- the bits from a word on
pub flags-drop : (ws : List ℕ) (k x : ℕ) → k < length ws → x ≡ get_or ws k x → flags (drop k ws) ≡ bits 64 x ++ flags (drop (k + 1) ws)
flags-drop [] k x lt is = absurd (omega (arith, lt))
flags-drop (w ∷ ws) zero x lt is = flags-more w ws ∙ ap (λ v. bits 64 v ++ flags ws) (sym is)
flags-drop (w ∷ ws) (suc k) x lt is =
    let n : suc (k + 1) ≡ suc k + 1 = omega arith in
    flags-drop ws k x (omega (arith, lt)) is ∙ ap (λ v. bits 64 x ++ flags (drop v (w ∷ ws))) n

-- no bit is set
bits-zero : (k : ℕ) → bits k 0 ≡ replicate k false
bits-zero zero = bits-none 0
bits-zero (suc k) = bits-more k 0 ∙ ap (λ v. false ∷ v) (bits-zero k)

abbrev pub AreFalse : List Bool → Type 0
AreFalse bs = (k : ℕ) → get_or bs k false ≡ false

false-more : (n : ℕ) (bs : List Bool) → AreFalse bs → AreFalse (replicate n false ++ bs)
false-more zero bs h = h
false-more (suc n) bs h = each (false-more n bs h)
  where
    each : AreFalse (replicate n false ++ bs) → (k : ℕ) → get_or (replicate (suc n) false ++ bs) k false ≡ false
    each ih zero = refl
    each ih (suc k) = ih k

pub flags-zero : (n : ℕ) → AreFalse (flags (replicate n 0))
flags-zero zero = λ k. ap (λ v. get_or v k false) flags-none
flags-zero (suc n) = λ k.
    ap (λ v. get_or v k false) (flags-more 0 (replicate n 0) ∙ ap (λ v. v ++ flags (replicate n 0)) (bits-zero 64))
    ∙ false-more 64 (flags (replicate n 0)) (flags-zero n) k

pub numbers-none : (n : ℕ) (bs : List Bool) → AreFalse bs → numbers_from n bs ≡ []
numbers-none n [] h = refl
numbers-none n (b ∷ bs) h = ap (λ v. cond v (n ∷ numbers_from (n + 1) bs) (numbers_from (n + 1) bs)) (h 0) ∙ numbers-none (n + 1) bs (λ k. h (suc k))

-- one truth is changed
pub counts : (n : ℕ) (bs : List Bool) (i : ℕ) (held : Bool) → i < length bs
    → length (numbers_from n (set bs i held)) + cond (get_or bs i false) 1 0 ≡ length (numbers_from n bs) + cond held 1 0
counts n [] i held lt = absurd (omega (arith, lt))
counts n (b ∷ bs) zero held lt = go b held
  where
    go : (b held : Bool) → length (cond held (n ∷ numbers_from (n + 1) bs) (numbers_from (n + 1) bs)) + cond b 1 0
        ≡ length (cond b (n ∷ numbers_from (n + 1) bs) (numbers_from (n + 1) bs)) + cond held 1 0
    go true true = refl
    go true false = omega arith
    go false true = omega arith
    go false false = refl
counts n (b ∷ bs) (suc i) held lt = go b (counts (n + 1) bs i held (omega (arith, lt)))
  where
    go : (b : Bool) → length (numbers_from (n + 1) (set bs i held)) + cond (get_or bs i false) 1 0 ≡ length (numbers_from (n + 1) bs) + cond held 1 0
        → length (cond b (n ∷ numbers_from (n + 1) (set bs i held)) (numbers_from (n + 1) (set bs i held))) + cond (get_or bs i false) 1 0
        ≡ length (cond b (n ∷ numbers_from (n + 1) bs) (numbers_from (n + 1) bs)) + cond held 1 0
    go true ih = omega (arith, ih)
    go false ih = ih

-- a number is put in, or taken out
pub put-is : (ws : List ℕ) (n x y : ℕ) (held : Bool) → n < length (flags ws) → x ≡ get_or ws (n / 64) x → bits 64 y ≡ set (bits 64 x) (n % 64) held
    → flags (set ws (n / 64) y) ≡ set (flags ws) n held
put-is ws n x y held lt is one =
    flags-set ws (n / 64) (n % 64) x y held (word-within ws n lt) is (bit-within n) one ∙ ap (λ v. set (flags ws) v held) (number-is n)

pub put-count : (ws : List ℕ) (n count more less : ℕ) (held has : Bool) → n < length (flags ws) → count ≡ length (numbers (flags ws))
    → more ≡ cond held 1 0 → has ≡ get_or (flags ws) n false → less ≡ cond has 1 0
    → (less ≤ count + more) × (count + more - less ≡ length (numbers (set (flags ws) n held)))
put-count ws n count more less held has lt is m h l =
    let change : length (numbers (set (flags ws) n held)) + cond (get_or (flags ws) n false) 1 0 ≡ length (numbers (flags ws)) + cond held 1 0 =
    counts 0 (flags ws) n held lt in
    let old : less ≡ cond (get_or (flags ws) n false) 1 0 = l ∙ ap (λ v. cond v 1 0) h in
    (omega (arith, change, old, is, m), omega (arith, change, old, is, m))

-- the empty set
pub none-held : (n : ℕ) (ws : List ℕ) → ws ≡ replicate n 0 → AreFalse (flags ws)
none-held n ws e k = ap (λ v. get_or (flags v) k false) e ∙ flags-zero n k

pub has-room : (size : ℕ) (ws : List ℕ) → length ws ≡ size / 64 + 1 → size < length (flags ws)
has-room size ws e =
    let all : length (flags ws) ≡ 64 * length ws = flags-length ws in
    let is : 64 * (size / 64) + size % 64 ≡ size = number-is size in
    let low : size % 64 < 64 = bit-within size in
    omega (arith, all, is, low, e)

-- a truth as a number
pub byte-is : (b : Bool) → bool_byte b ≡ cond b 1 0
byte-is true = refl
byte-is false = refl

-- the numbers from a word on are those of the word, and those behind it
pub numbers-drop : (ws : List ℕ) (k : ℕ) → k < length ws
    → numbers_from (64 * k) (flags (drop k ws)) ≡ numbers_from (64 * k) (bits 64 (get_or ws k 0)) ++ numbers_from (64 * (k + 1)) (flags (drop (k + 1) ws))
numbers-drop ws k lt =
    let n : 64 * k + 64 ≡ 64 * (k + 1) = omega arith in
    ap (numbers_from (64 * k)) (flags-drop ws k (get_or ws k 0) lt (get_or_default ws k 0 (get_or ws k 0) lt))
    ∙ numbers-append (64 * k) (bits 64 (get_or ws k 0)) (flags (drop (k + 1) ws))
    ∙ ap (λ v. numbers_from (64 * k) (bits 64 (get_or ws k 0)) ++ numbers_from (64 * k + v) (flags (drop (k + 1) ws))) (bits-length 64 (get_or ws k 0))
    ∙ ap (λ v. numbers_from (64 * k) (bits 64 (get_or ws k 0)) ++ numbers_from v (flags (drop (k + 1) ws))) n

pub here-same : (ws : List ℕ) (k left : ℕ) → k < length ws → left < length (numbers_from (64 * k) (bits 64 (get_or ws k 0)))
    → get_or (numbers_from (64 * k) (bits 64 (get_or ws k 0))) left 0 ≡ get_or (numbers_from (64 * k) (flags (drop k ws))) left 0
here-same ws k left lt within =
    sym (get_or_append_left (numbers_from (64 * k) (bits 64 (get_or ws k 0))) (numbers_from (64 * (k + 1)) (flags (drop (k + 1) ws))) 0 left within)
    ∙ ap (λ v. get_or v left 0) (sym (numbers-drop ws k lt))

pub behind-within : (ws : List ℕ) (k left held : ℕ) → k < length ws → held ≡ length (numbers_from (64 * k) (bits 64 (get_or ws k 0))) → held ≤ left
    → left < length (numbers_from (64 * k) (flags (drop k ws))) → left - held < length (numbers_from (64 * (k + 1)) (flags (drop (k + 1) ws)))
behind-within ws k left held lt is le within =
    let all : length (numbers_from (64 * k) (flags (drop k ws))) ≡ length (numbers_from (64 * k) (bits 64 (get_or ws k 0))) + length
    (numbers_from (64 * (k + 1)) (flags (drop (k + 1) ws))) =
    ap length (numbers-drop ws k lt) ∙
    length-append (numbers_from (64 * k) (bits 64 (get_or ws k 0))) (numbers_from (64 * (k + 1)) (flags (drop (k + 1) ws))) in
    omega (arith, all, is, le, within)

pub behind-same : (ws : List ℕ) (k left held : ℕ) → k < length ws → held ≡ length (numbers_from (64 * k) (bits 64 (get_or ws k 0))) → held ≤ left
    → get_or (numbers_from (64 * (k + 1)) (flags (drop (k + 1) ws))) (left - held) 0 ≡ get_or (numbers_from (64 * k) (flags (drop k ws))) left 0
behind-same ws k left held lt is le =
    sym (get_or-append_right (numbers_from (64 * k) (bits 64 (get_or ws k 0))) (numbers_from (64 * (k + 1)) (flags (drop (k + 1) ws))) held left 0 (sym is) le)
    ∙ ap (λ v. get_or v left 0) (sym (numbers-drop ws k lt))

drop-past : (ws : List ℕ) (k : ℕ) → length ws ≤ k → drop k ws ≡ []
drop-past [] zero le = refl
drop-past [] (suc k) le = refl
drop-past (w ∷ ws) zero le = absurd (omega (arith, le))
drop-past (w ∷ ws) (suc k) le = drop-past ws k (omega (arith, le))

pub none-behind : (ws : List ℕ) (k left : ℕ) → length ws ≤ k → left < length (numbers_from (64 * k) (flags (drop k ws))) → ⊥
none-behind ws k left le within =
    let none : length (numbers_from (64 * k) (flags (drop k ws))) ≡ 0 = ap (λ v. length (numbers_from (64 * k) (flags v))) (drop-past ws k le) ∙
    ap (λ v. length (numbers_from (64 * k) v)) flags-none in
    absurd (omega (arith, none, within))

-- one word more
pub numbers-more : (ws : List ℕ) (k : ℕ) → k < length ws
    → length (numbers (flags (take (k + 1) ws))) ≡ length (numbers (flags (take k ws))) + length (numbers_from (64 * k) (bits 64 (get_or ws k 0)))
numbers-more ws k lt =
    let long : length (flags (take k ws)) ≡ 64 * k = flags-length (take k ws) ∙ ap (λ v. 64 * v) (length-take-le k ws (omega (arith, lt))) in
    ap (λ v. length (numbers v)) (ap flags (take_more ws k 0 lt) ∙ flags-push (take k ws) (get_or ws k 0))
    ∙ ap length (numbers-append 0 (flags (take k ws)) (bits 64 (get_or ws k 0)))
    ∙ length-append (numbers (flags (take k ws))) (numbers_from (0 + length (flags (take k ws))) (bits 64 (get_or ws k 0)))
    ∙ ap (λ v. length (numbers (flags (take k ws))) + length (numbers_from v (bits 64 (get_or ws k 0))))
    (let e : 0 + length (flags (take k ws)) ≡ 64 * k = omega (arith, long) in e)

-- the low bits of a word have as many numbers as the word that has no others
pub low-numbers : (n j w : ℕ) → j < 64 → length (numbers_from n (bits 64 (w % 2 ^ j))) ≡ length (numbers_from n (bits j w))
low-numbers n j w lt =
    let low : w % 2 ^ j < 2 ^ j = mod_below w (2 ^ j) (pow_pos j) in
    let room : 2 ^ j < 2 ^ 64 = pow_below j 64 lt in
    ones-bits n 64 (w % 2 ^ j) (omega (arith, low, room)) ∙ sym (ones-bits n j (w % 2 ^ j) low) ∙ ap (λ v. length (numbers_from n v)) (bits-low j w)

pub flags-past : (ws : List ℕ) (n : ℕ) → length ws ≤ n / 64 → length (flags ws) ≤ n
flags-past ws n le =
    let all : length (flags ws) ≡ 64 * length ws = flags-length ws in
    let is : 64 * (n / 64) + n % 64 ≡ n = number-is n in
    omega (arith, all, is, le)

-- a word has no numbers exactly where it is 0
positive : (n : ℕ) → (n ≡ 0 → ⊥) → 0 < n
positive zero h = absurd (h refl)
positive (suc n) h = omega arith

pub some-held : (n w : ℕ) → w < 2 ^ 64 → (w ≡ 0 → ⊥) → 0 < length (numbers_from n (bits 64 w))
some-held n w lt h = positive (length (numbers_from n (bits 64 w))) (λ e. h (zero_from_ones w (sym (ones-bits n 64 w lt) ∙ e)))

pub no-number : (n : ℕ) → length (numbers_from n (bits 64 0)) ≡ 0
no-number n =
    ap length (numbers-none n (bits 64 0) (λ k. ap (λ v. get_or v k false) (bits-zero 64 ∙ sym (append-nil (replicate 64 false)))
    ∙ false-more 64 [] (λ j. refl) k))
