-- Numbers and real literals at the front of a text.
use Rattle.std.proofs.Common.{◌≡◌, ℕ, ◌<◌, ◌≤◌, ◌+◌, Bool, true, false, ◌&&◌, ◌||◌, ◌==◌, cond, inl, inr, List, [], ◌∷◌, ◌++◌, length, take, drop, suc, zero}
use Rattle.std.proofs.Common.{slice_index, ap, refl, ◌∙◌, sym, subst, arith, zero-add}
use Rattle.std.specs.List.{prefix_len}
use Rattle.std.specs.Char.{is_ascii_digit}
use Rattle.std.proofs.lemmas.Bool.{or_cases, and_parts, and_from, and_left, or_left, or_right, cond-true, cond-false, eqb-true}
use Rattle.std.proofs.lemmas.Bool.Decides.{nat_tests}
use Rattle.std.proofs.lemmas.List.{append_assoc, append-nil, length-append}
use Rattle.std.proofs.Math.Seq.{take-add, drop-append_seam}
use Rattle.pfc_scan.specs.declared.piece.First.TheVariants.{Digit}
use Rattle.pfc_scan.specs.declared.piece.Reading.{Reading}
use Rattle.pfc_scan.specs.declared.piece.Reading.TheVariants.{Refused}
use Rattle.pfc_scan.specs.Pieces.{IsNumber, is_number, is_scale, is_power, IsReal, fraction, scaled, both, number_reading, Reads, number, real}
use Rattle.pfc_scan.specs.Finding.{fraction_len, power_len, scale_len, real_len, IsNextPiece}
use Rattle.pfc_scan.proofs.Firsts.{digit-first}
use Rattle.pfc_scan.proofs.Fronts.{next_plain, AtMost}
use Rattle.pfc_scan.proofs.Lists.{prefix-least, prefix-exact, prefix-passes}
use Rattle.pfc_scan.proofs.One.{number_all}

abbrev digits_len : List ℕ → ℕ
digits_len text = prefix_len is_ascii_digit text

-- ---- no fraction and no scale is longer than the one that is found

fraction-least : (digits left : List ℕ) → IsNumber digits → 1 + length digits ≤ fraction_len (46 ∷ (digits ++ left))
fraction-least [] left n = cc
fraction-least (d ∷ ds) left n =
    let e : fraction_len (46 ∷ ((d ∷ ds) ++ left)) ≡ 1 + digits_len ((d ∷ ds) ++ left) = cond-true _ _ _ (and_parts (is_ascii_digit d) _ n).0 in
    let least : length (d ∷ ds) ≤ digits_len ((d ∷ ds) ++ left) = prefix-least is_ascii_digit (d ∷ ds) left n in
    rw e (omega arith)

fraction-exact : (digits : List ℕ) (c : ℕ) (left : List ℕ) → IsNumber digits → is_ascii_digit c ≡ false →
    fraction_len (46 ∷ (digits ++ (c ∷ left))) ≡ 1 + length digits
fraction-exact [] c left n stop = cc
fraction-exact (d ∷ ds) c left n stop =
    let e : fraction_len (46 ∷ ((d ∷ ds) ++ (c ∷ left))) ≡ 1 + digits_len ((d ∷ ds) ++ (c ∷ left)) = cond-true _ _ _ (and_parts (is_ascii_digit d) _ n).0 in
    e ∙ ap (λ k. 1 + k) (prefix-exact is_ascii_digit (d ∷ ds) c left n stop)

sign_no_digit : (b : ℕ) → (b == 43 || b == 45) ≡ true → is_ascii_digit b ≡ false
sign_no_digit b h = grind (arith, nat_tests)

power-signed : (b : ℕ) (bytes left : List ℕ) → (b == 43 || b == 45) ≡ true → IsNumber bytes → suc (length bytes) ≤ power_len (b ∷ (bytes ++ left))
power-signed b [] left s n = cc
power-signed b (d ∷ ds) left s n =
    let first : is_ascii_digit d ≡ true = (and_parts (is_ascii_digit d) _ n).0 in
    let e : power_len (b ∷ ((d ∷ ds) ++ left)) ≡ 1 + digits_len ((d ∷ ds) ++ left) = cond-false _ _ _ (sign_no_digit b s) ∙
    cond-true _ _ _ (and_from _ _ s first) in
    let least : length (d ∷ ds) ≤ digits_len ((d ∷ ds) ++ left) = prefix-least is_ascii_digit (d ∷ ds) left n in
    rw e (omega arith)

power-least : (b : ℕ) (bytes left : List ℕ) → is_power (b ∷ bytes) ≡ true → suc (length bytes) ≤ power_len (b ∷ (bytes ++ left))
power-least b bytes left h =
    elim (or_cases _ _ h) [
      | inl n ↦ (let e : power_len (b ∷ (bytes ++ left)) ≡ digits_len (b ∷ (bytes ++ left)) =
          cond-true _ _ _ (and_parts (is_ascii_digit b) _ n).0 in rw e (prefix-least is_ascii_digit (b ∷ bytes) left n))
      | inr s ↦ power-signed b bytes left (and_parts _ _ s).0 (and_parts _ _ s).1
    ]

some_power : (n : ℕ) → 0 < n → cond (n == 0) 0 (1 + n) ≡ 1 + n
some_power n h = grind (arith, nat_tests)

scale-least : (scale left : List ℕ) → is_scale scale ≡ true → length scale ≤ scale_len (scale ++ left)
scale-least [] left h = omega arith
scale-least (b ∷ []) left h = let x : false ≡ true = (and_parts (b == 69 || b == 101) false h).1 in cc
scale-least (b ∷ p ∷ bytes) left h =
    let parts = and_parts (b == 69 || b == 101) (is_power (p ∷ bytes)) h in
    let least : suc (length bytes) ≤ power_len (p ∷ (bytes ++ left)) = power-least p bytes left parts.1 in
    let e : scale_len (b ∷ (p ∷ (bytes ++ left))) ≡ 1 + power_len (p ∷ (bytes ++ left)) = cond-true _ _ _ parts.0 ∙ some_power _ (omega arith) in
    rw e (omega arith)

-- a scale begins with a letter
pub record BeginsScale (scale : List ℕ) : Type 0 where
  pub byte : ℕ
  pub power : List ℕ
  pub is : scale ≡ byte ∷ power
  pub no_digit : is_ascii_digit byte ≡ false
  pub no_point : (byte == 46) ≡ false

begins_scale : (scale : List ℕ) → is_scale scale ≡ true → BeginsScale scale
begins_scale [] h = cc
begins_scale (b ∷ power) h = record { byte = b; power = power; is = refl; no_digit = no_digit b (and_parts _ _ h).0; no_point = no_point b (and_parts _ _ h).0 }
  where
    no_digit : (b : ℕ) → (b == 69 || b == 101) ≡ true → is_ascii_digit b ≡ false
    no_digit b e = grind (arith, nat_tests)

    no_point : (b : ℕ) → (b == 69 || b == 101) ≡ true → (b == 46) ≡ false
    no_point b e = grind (arith, nat_tests)

-- ---- no real literal is longer than the one that is found

-- at the end of the digits `tail` is at most what is found there
abbrev TailFits : List ℕ → List ℕ → Type 0
TailFits tail left = (0 < length tail) × (length tail ≤ real_len (tail ++ left))

fraction-fits : (digits left : List ℕ) → IsNumber digits → TailFits (46 ∷ digits) left
fraction-fits digits left n =
    let least : 1 + length digits ≤ fraction_len (46 ∷ (digits ++ left)) = fraction-least digits left n in
    (omega arith, omega arith)

scale-fits : (scale left : List ℕ) → is_scale scale ≡ true → TailFits scale left
scale-fits scale left s =
    let b = begins_scale scale s in
    let some : 0 < length scale = rw b.is (omega arith) in
    let none : fraction_len (scale ++ left) ≡ 0 = rw b.is (cond-false _ _ _ (and_left _ _ b.no_point)) in
    let e : real_len (scale ++ left) ≡ scale_len (scale ++ left) = ap (λ n. n + scale_len (drop n (scale ++ left))) none ∙ zero-add _ in
    (some, rw e (scale-least scale left s))

both-fit : (digits scale left : List ℕ) → IsNumber digits → is_scale scale ≡ true → TailFits (46 ∷ (digits ++ scale)) left
both-fit digits scale left n s =
    let b = begins_scale scale s in
    let joined : (46 ∷ (digits ++ scale)) ++ left ≡ (46 ∷ digits) ++ (scale ++ left) = ap (λ x. 46 ∷ x) (append_assoc digits scale left) in
    let cut : scale ++ left ≡ b.byte ∷ (b.power ++ left) = ap (λ x. x ++ left) b.is in
    let exact : fraction_len ((46 ∷ digits) ++ (scale ++ left)) ≡ length (46 ∷ digits) =
    ap (λ x. fraction_len ((46 ∷ digits) ++ x)) cut ∙ fraction-exact digits b.byte (b.power ++ left) n b.no_digit ∙ one_add (length digits) in
    let behind : drop (length (46 ∷ digits)) ((46 ∷ digits) ++ (scale ++ left)) ≡ scale ++ left = drop-append_seam (46 ∷ digits) (scale ++ left) in
    let e : real_len ((46 ∷ digits) ++ (scale ++ left)) ≡ length (46 ∷ digits) + scale_len (scale ++ left) =
    ap (λ k. k + scale_len (drop k ((46 ∷ digits) ++ (scale ++ left)))) exact ∙ ap (λ x. length (46 ∷ digits) + scale_len x) behind in
    let least : length scale ≤ scale_len (scale ++ left) = scale-least scale left s in
    let long : length (46 ∷ (digits ++ scale)) ≡ length (46 ∷ digits) + length scale = length-append (46 ∷ digits) scale in
    (omega arith, rw (joined, e) (omega arith))
  where
    one_add : (k : ℕ) → 1 + k ≡ suc k
    one_add k = omega arith

-- a real literal at the front is no longer than the one that is found, and so one is found
pub record RealFits (piece text : List ℕ) : Type 0 where
  pub some : 0 < real_len (drop (digits_len text) text)
  pub most : length piece ≤ digits_len text + real_len (drop (digits_len text) text)

tail_fits : (whole tail left text : List ℕ) (c : ℕ) (more : List ℕ) → IsNumber whole → tail ≡ c ∷ more → is_ascii_digit c ≡ false →
    text ≡ (whole ++ tail) ++ left → TailFits tail left → RealFits (whole ++ tail) text
tail_fits whole tail left text c more n is stop cut fits =
    let seam : text ≡ whole ++ (tail ++ left) = cut ∙ append_assoc whole tail left in
    let next : tail ++ left ≡ c ∷ (more ++ left) = ap (λ x. x ++ left) is in
    let digits : digits_len text ≡ length whole = ap digits_len (seam ∙ ap (λ x. whole ++ x) next) ∙
    prefix-exact is_ascii_digit whole c (more ++ left) (number_all whole n) stop in
    let behind : drop (digits_len text) text ≡ tail ++ left = ap (λ k. drop k text) digits ∙ ap (drop (length whole)) seam ∙
    drop-append_seam whole (tail ++ left) in
    let found : real_len (drop (digits_len text) text) ≡ real_len (tail ++ left) = ap real_len behind in
    let long : length (whole ++ tail) ≡ length whole + length tail = length-append whole tail in
    let some : 0 < length tail = fits.0 in
    let most : length tail ≤ real_len (tail ++ left) = fits.1 in
    record { some = rw found (omega arith); most = rw (found, digits, long) (omega arith) }

pub real_fits : (piece left text : List ℕ) → IsReal piece → text ≡ piece ++ left → RealFits piece text
real_fits piece left text (fraction whole digits n d is) cut =
    subst (λ p. RealFits p text) (sym is) (tail_fits whole (46 ∷ digits) left text 46 digits n refl refl (cut ∙
    ap (λ p. p ++ left) is) (fraction-fits digits left d))
real_fits piece left text (scaled whole scale n s is) cut =
    let b = begins_scale scale s in
    subst (λ p. RealFits p text) (sym is) (tail_fits whole scale left text b.byte b.power n b.is b.no_digit (cut ∙
    ap (λ p. p ++ left) is) (scale-fits scale left s))
real_fits piece left text (both whole digits scale n d s is) cut =
    subst (λ p. RealFits p text) (sym is)
    (tail_fits whole (46 ∷ (digits ++ scale)) left text 46 (digits ++ scale) n refl refl (cut ∙ ap (λ p. p ++ left) is) (both-fit digits scale left d s))

-- ---- what is found is a number or a real literal

pub number_front : (text : List ℕ) → is_ascii_digit (slice_index text 0) ≡ true → IsNumber (take (digits_len text) text)
number_front [] h = cc
number_front (b ∷ rest) h =
    let n : suc (digits_len rest) ≡ digits_len (b ∷ rest) = rw h (omega arith) in
    subst (λ n. IsNumber (take n (b ∷ rest))) n (rw h (prefix-passes is_ascii_digit rest))

-- the test of a `cond` whose value is not 0
cond_some : (t : Bool) (n : ℕ) → 0 < cond t n 0 → (t ≡ true) × (0 < n)
cond_some true n h = (refl, h)
cond_some false n h = absurd (omega arith)

pub record IsFraction (piece : List ℕ) : Type 0 where
  pub digits : List ℕ
  pub number : IsNumber digits
  pub is : piece ≡ 46 ∷ digits

-- one more byte in front
take_one : (b : ℕ) (text : List ℕ) (n : ℕ) → take (1 + n) (b ∷ text) ≡ b ∷ take n text
take_one b text n = let one : 1 + n ≡ suc n = omega arith in ap (λ k. take k (b ∷ text)) one

fraction_front : (text : List ℕ) → 0 < fraction_len text → IsFraction (take (fraction_len text) text)
fraction_front [] h = absurd (omega arith)
fraction_front (b ∷ rest) h =
    let found = cond_some (b == 46 && is_ascii_digit (slice_index rest 0)) (1 + digits_len rest) h in
    let parts = and_parts (b == 46) (is_ascii_digit (slice_index rest 0)) found.0 in
    let len : fraction_len (b ∷ rest) ≡ 1 + digits_len rest = cond-true _ _ _ found.0 in
    record {
      digits = take (digits_len rest) rest;
      number = number_front rest parts.1;
      is = ap (λ k. take k (b ∷ rest)) len ∙ take_one b rest (digits_len rest) ∙ ap (λ c. c ∷ take (digits_len rest) rest) (eqb-true b 46 parts.0);
    }

number_power : (piece : List ℕ) → IsNumber piece → is_power piece ≡ true
number_power [] h = cc
number_power (b ∷ bytes) h = or_left (is_number (b ∷ bytes)) _ h

signed_power : (b : ℕ) (bytes : List ℕ) → (b == 43 || b == 45) ≡ true → IsNumber bytes → is_power (b ∷ bytes) ≡ true
signed_power b bytes s n = or_right (is_number (b ∷ bytes)) _ (and_from (b == 43 || b == 45) (is_number bytes) s n)

power_front : (text : List ℕ) → 0 < power_len text → is_power (take (power_len text) text) ≡ true
power_front [] h = absurd (omega arith)
power_front (b ∷ rest) h = go (is_ascii_digit b) refl
  where
    go : (t : Bool) → is_ascii_digit b ≡ t → is_power (take (power_len (b ∷ rest)) (b ∷ rest)) ≡ true
    go true e =
        let len : power_len (b ∷ rest) ≡ digits_len (b ∷ rest) = cond-true _ _ _ e in
        rw len (number_power (take (digits_len (b ∷ rest)) (b ∷ rest)) (number_front (b ∷ rest) e))
    go false e =
        let signed = (b == 43 || b == 45) && is_ascii_digit (slice_index rest 0) in
        let no_digit : power_len (b ∷ rest) ≡ cond signed (1 + digits_len rest) 0 = cond-false _ _ _ e in
        let found = cond_some signed (1 + digits_len rest) (rw no_digit at h) in
        let parts = and_parts (b == 43 || b == 45) (is_ascii_digit (slice_index rest 0)) found.0 in
        let len : power_len (b ∷ rest) ≡ 1 + digits_len rest = no_digit ∙ cond-true _ _ _ found.0 in
        rw (len, take_one b rest (digits_len rest)) (signed_power b (take (digits_len rest) rest) parts.0 (number_front rest parts.1))

scale_front : (text : List ℕ) → 0 < scale_len text → is_scale (take (scale_len text) text) ≡ true
scale_front [] h = absurd (omega arith)
scale_front (b ∷ rest) h =
    let found = cond_some (b == 69 || b == 101) (cond (power_len rest == 0) 0 (1 + power_len rest)) h in
    let some : 0 < power_len rest = positive (power_len rest) found.1 in
    let len : scale_len (b ∷ rest) ≡ 1 + power_len rest = cond-true _ _ _ found.0 ∙ some_power (power_len rest) some in
    rw (len, take_one b rest (power_len rest)) (and_from _ _ found.0 (power_front rest some))
  where
    positive : (n : ℕ) → 0 < cond (n == 0) 0 (1 + n) → 0 < n
    positive n h = grind (arith, nat_tests)

real_of : (piece whole front back : List ℕ) (f s : ℕ) → IsNumber whole → piece ≡ whole ++ (take f front ++ take s back) → (0 < f → IsFraction (take f front)) →
    (0 < s → is_scale (take s back) ≡ true) → 0 < f + s → IsReal piece
real_of piece whole front back zero zero n is a b some = absurd (omega arith)
real_of piece whole front back zero (suc s) n is a b some = scaled whole (take (suc s) back) n (b (omega arith)) is
real_of piece whole front back (suc f) zero n is a b some =
    let x = a (omega arith) in
    fraction whole x.digits n x.number (is ∙ ap (λ y. whole ++ y) (append-nil (take (suc f) front) ∙ x.is))
real_of piece whole front back (suc f) (suc s) n is a b some =
    let x = a (omega arith) in
    both whole x.digits (take (suc s) back) n x.number (b (omega arith)) (is ∙ ap (λ y. whole ++ (y ++ take (suc s) back)) x.is)

-- where something is found behind the digits, the whole is a real literal
pub real_front : (text : List ℕ) → is_ascii_digit (slice_index text 0) ≡ true → 0 < real_len (drop (digits_len text) text) →
    IsReal (take (digits_len text + real_len (drop (digits_len text) text)) text)
real_front text first some =
    let behind = drop (digits_len text) text in
    let last = drop (fraction_len behind) behind in
    let whole = take (digits_len text) text in
    let cut : take (digits_len text + real_len behind) text ≡ whole ++ (take (fraction_len behind) behind ++ take (scale_len last) last) =
    take-add (digits_len text) (real_len behind) text ∙ ap (λ x. whole ++ x) (take-add (fraction_len behind) (scale_len last) behind) in
    real_of (take (digits_len text + real_len behind) text) whole behind last (fraction_len behind) (scale_len last) (number_front text first) cut
    (fraction_front behind) (scale_front last) some

-- ---- the piece that digits begin

pub number_next : (text : List ℕ) (tail : ℕ) (r : Reading) → is_ascii_digit (slice_index text 0) ≡ true →
    tail ≡ real_len (drop (digits_len text) text) → digits_len text + tail ≤ length text
    → (tail ≡ 0 → r ≡ number_reading (take (digits_len text) text)) → (0 < tail → r ≡ Refused 105) →
    IsNextPiece text (record { length = digits_len text + tail; reading = r })
number_next [] tail r h is within plain other = cc
number_next (b ∷ rest) tail r h is within plain other =
    let some : 0 < digits_len (b ∷ rest) = rw h (omega arith) in
    next_plain Digit b rest (digits_len (b ∷ rest) + tail) r (digit-first b h) refl (omega arith) within (reads tail is plain other) most
  where
    reads : (tail : ℕ) → tail ≡ real_len (drop (digits_len (b ∷ rest)) (b ∷ rest)) →
        (tail ≡ 0 → r ≡ number_reading (take (digits_len (b ∷ rest)) (b ∷ rest))) → (0 < tail → r ≡ Refused 105)
        → Reads (take (digits_len (b ∷ rest) + tail) (b ∷ rest)) r
    reads zero is plain other =
        let none : digits_len (b ∷ rest) + 0 ≡ digits_len (b ∷ rest) = omega arith in
        rw none (number (number_front (b ∷ rest) h) (plain refl))
    reads (suc n) is plain other = rw is (real (real_front (b ∷ rest) h (subst (λ n. 0 < n) is (omega arith))) (other (omega arith)))

    most : AtMost Digit (b ∷ rest) (digits_len (b ∷ rest) + tail)
    most other left s cut (inl n) opened =
        let least : length other ≤ digits_len (b ∷ rest) =
        subst (λ t. length other ≤ digits_len t) (sym cut) (prefix-least is_ascii_digit other left (number_all other n.0)) in
        omega arith
    most other left s cut (inr n) opened = let fits = real_fits other left (b ∷ rest) n.0 cut in rw is fits.most
