-- An integer that prints is read as itself.
use Rattle.std.proofs.Common.{◌≡◌, ℕ, zero, suc, ◌-◌, ◌<◌, ◌^◌, Bool, true, false, cond, ℤ, pos, negsuc, neg_ℤ, List, [], ◌∷◌, ◌++◌, length, replicate, Option}
use Rattle.std.proofs.Common.{Some, None, Ok, Err, refl, sym, ap, ◌∙◌, arith}
use Rattle.std.specs.Prelude.{◌==◌, if◌then◌else◌, unsigned_abs}
use Rattle.std.specs.Fmt.{decimal, signed_decimal}
use Rattle.std.specs.Int.{IsInRange}
use Rattle.std.proofs.lemmas.Bool.{cond-true}
use Rattle.std.proofs.lemmas.Bool.Decides.{nat_tests}
use Rattle.std.proofs.lemmas.List.{append_assoc, append-nil}
use Rattle.std.proofs.lemmas.Fmt.{digits_decimal, digits_value-decimal, decimal_nonempty}
use Rattle.std.proofs.lemmas.Str.Parse.{IsNumeralModel, numerals_by_fold}
use Rattle.pfc_base.specs.declared.faults.RunFault.TheVariants.{Overflow, Width}
use Rattle.pfc_values.specs.declared.simple.Simple.TheVariants.{Integer}
use Rattle.pfc_values.specs.Inputs.{is_blank, behind_blanks, is_digit, digits, behind_digits, number_behind, read_to, unsigned_item, signed_item, integer_item}
use Rattle.pfc_values.specs.Inputs.{item}
use Rattle.pfc_values.specs.Numbers.{is_of, fitting}
use Rattle.pfc_values.specs.Pieces.{is_width, blanks_for, piece, shown}

-- ---- digits

-- a digit by the test, and by its range
digit_passes : (c : ℕ) → IsInRange 48 57 c → is_digit c ≡ true
digit_passes c h = grind (arith, nat_tests)

digit_range : (c : ℕ) → is_digit c ≡ true → IsInRange 48 57 c
digit_range c h = grind (arith, nat_tests)

-- bytes that are all digits: one more, and one less
digits-more : (c : ℕ) (cs : List ℕ) → is_digit c ≡ true → digits cs ≡ cs → digits (c ∷ cs) ≡ c ∷ cs
digits-more c cs t h = rw t (ap (λ x. c ∷ x) h)

digits_parts : (c : ℕ) (cs : List ℕ) (t : Bool) → cond t (c ∷ digits cs) [] ≡ c ∷ cs → (t ≡ true) × (digits cs ≡ cs)
digits_parts c cs true h = (refl, cc)
digits_parts c cs false h = cc

-- the library's word for them
all_digits : IsNumeralModel (λ ds. digits ds ≡ ds) (number_behind 0)
all_digits = numerals_by_fold (λ ds. digits ds ≡ ds)
    (record {
      empty = refl;
      parts = λ c cs h. let p = digits_parts c cs (is_digit c) h in (digit_range c p.0, p.1);
      more = λ c cs r h. digits-more c cs (digit_passes c r) h;
    })
    number_behind
    (record { empty = λ n. refl; more = λ n c cs r. refl })

-- digits with what follows them
digits-append : (ds rest : List ℕ) → digits ds ≡ ds → digits (ds ++ rest) ≡ ds ++ digits rest
digits-append [] rest h = refl
digits-append (d ∷ ds) rest h =
    let p = digits_parts d ds (is_digit d) h in
    let later : digits (ds ++ rest) ≡ ds ++ digits rest = digits-append ds rest p.1 in
    rw p.0 (ap (λ x. d ∷ x) later)

behind_digits-append : (ds rest : List ℕ) → digits ds ≡ ds → behind_digits (ds ++ rest) ≡ behind_digits rest
behind_digits-append [] rest h = refl
behind_digits-append (d ∷ ds) rest h =
    let p = digits_parts d ds (is_digit d) h in
    rw p.0 (behind_digits-append ds rest p.1)

-- where no digit stands, nothing is passed
behind_digits-none : (rest : List ℕ) → digits rest ≡ [] → behind_digits rest ≡ rest
behind_digits-none [] h = refl
behind_digits-none (b ∷ rest) h = go (is_digit b) h
  where
    go : (t : Bool) → cond t (b ∷ digits rest) [] ≡ [] → cond t (behind_digits rest) (b ∷ rest) ≡ b ∷ rest
    go true e = cc
    go false e = refl

-- ---- items

-- a number behind its sign
unsigned_read : (negative : Bool) (ds rest : List ℕ) → 0 < length ds → digits ds ≡ ds → digits rest ≡ []
    → unsigned_item negative (ds ++ rest) (digits (ds ++ rest)) ≡ read_to rest (fitting (if negative then
    neg_ℤ (pos (number_behind 0 ds)) else pos (number_behind 0 ds)))
unsigned_read negative [] rest some h none = absurd (omega arith)
unsigned_read negative (d ∷ ds) rest some h none =
    let front : digits ((d ∷ ds) ++ rest) ≡ d ∷ ds = digits-append (d ∷ ds) rest h ∙ ap (λ x. (d ∷ ds) ++ x) none ∙ append-nil (d ∷ ds) in
    let behind : behind_digits ((d ∷ ds) ++ rest) ≡ rest = behind_digits-append (d ∷ ds) rest h ∙ behind_digits-none rest none in
    ap (unsigned_item negative ((d ∷ ds) ++ rest)) front
    ∙ ap (λ x. read_to x (fitting (if negative then neg_ℤ (pos (number_behind 0 (d ∷ ds))) else pos (number_behind 0 (d ∷ ds))))) behind

-- a digit is no blank and no sign
record IsPlain (d : ℕ) : Type 0 where
  blank : is_blank d ≡ false
  plus : (d == 43) ≡ false
  minus : (d == 45) ≡ false

digit_plain : (d : ℕ) → is_digit d ≡ true → IsPlain d
digit_plain d h = record { blank = grind (arith, nat_tests); plus = grind (arith, nat_tests); minus = grind (arith, nat_tests) }

-- a number without a sign
plain_read : (ds rest : List ℕ) → 0 < length ds → digits ds ≡ ds → digits rest ≡ [] →
    integer_item (ds ++ rest) ≡ read_to rest (fitting (pos (number_behind 0 ds)))
plain_read [] rest some h none = absurd (omega arith)
plain_read (d ∷ ds) rest some h none =
    let p = digit_plain d (digits_parts d ds (is_digit d) h).0 in
    let blank : is_blank d ≡ false = p.blank in
    let plus : (d == 43) ≡ false = p.plus in
    let minus : (d == 45) ≡ false = p.minus in
    rw (blank, plus, minus) (unsigned_read false (d ∷ ds) rest some h none)

-- a number behind `-`
minus_read : (ds rest : List ℕ) → 0 < length ds → digits ds ≡ ds → digits rest ≡ [] →
    integer_item (45 ∷ (ds ++ rest)) ≡ read_to rest (fitting (neg_ℤ (pos (number_behind 0 ds))))
minus_read ds rest some h none = unsigned_read true ds rest some h none

-- an integer fits
fitted : (n : ℤ) (rest : List ℕ) → is_of Integer n ≡ true → read_to rest (fitting n) ≡ Ok (record { value = n; left = rest })
fitted n rest is = ap (read_to rest) (cond-true (is_of Integer n) (Ok n) (Err Overflow) is)

-- an integer as it prints
signed_read : (n : ℤ) (rest : List ℕ) → is_of Integer n ≡ true → digits rest ≡ [] →
    integer_item (signed_decimal n ++ rest) ≡ Ok (record { value = n; left = rest })
signed_read (pos n) rest is none =
    let bound : n < 2 ^ 64 = grind (arith, nat_tests) in
    plain_read (decimal n) rest (decimal_nonempty n bound) (digits_decimal all_digits n bound) none ∙
    ap (λ k. read_to rest (fitting (pos k))) (digits_value-decimal all_digits n bound)
    ∙ fitted (pos n) rest is
signed_read (negsuc n) rest is none =
    let bound : suc n < 2 ^ 64 = grind (arith, nat_tests) in
    minus_read (decimal (suc n)) rest (decimal_nonempty (suc n) bound) (digits_decimal all_digits (suc n) bound) none ∙
    ap (λ k. read_to rest (fitting (neg_ℤ (pos k)))) (digits_value-decimal all_digits (suc n) bound)
    ∙ fitted (negsuc n) rest is

-- blanks before it are passed
behind_blanks-replicate : (k : ℕ) (bytes : List ℕ) → behind_blanks (replicate k 32 ++ bytes) ≡ behind_blanks bytes
behind_blanks-replicate zero bytes = refl
behind_blanks-replicate (suc k) bytes = behind_blanks-replicate k bytes

put_is : (t : Bool) (bytes added : List ℕ) → cond t (Ok bytes) (Err Width) ≡ Ok added → bytes ≡ added
put_is true bytes added h = cc
put_is false bytes added h = cc

-- what was put is read
pub piece_read : (n : ℤ) (width : Option ℤ) (added rest : List ℕ) → is_of Integer n ≡ true → piece width (shown Integer n) ≡ Ok added
    → digits rest ≡ [] → item Integer (added ++ rest) ≡ Ok (record { value = n; left = rest })
piece_read n None added rest is put none = let same : signed_decimal n ≡ added =
    cc in ap (λ x. integer_item (x ++ rest)) (sym same) ∙ signed_read n rest is none
piece_read n (Some w) added rest is put none =
    let blanks : List ℕ = blanks_for (unsigned_abs w) (signed_decimal n) in
    let same : blanks ++ signed_decimal n ≡ added = put_is (is_width w) (blanks ++ signed_decimal n) added put in
    ap (λ x. integer_item (x ++ rest)) (sym same) ∙ ap integer_item (append_assoc blanks (signed_decimal n) rest)
    ∙ ap signed_item (behind_blanks-replicate (unsigned_abs w - length (signed_decimal n)) (signed_decimal n ++ rest)) ∙ signed_read n rest is none
