-- The tokens of a text write small numbers.
use Rattle.std.proofs.Common.{◌≡◌, ℕ, ◌≤◌, ◌==◌, pos, nat_lt, Bool, true, false, if◌then◌else◌, List, [], ◌∷◌, ◌++◌, Option, Some, None, refl, sym, ◌∙◌, subst}
use Rattle.std.proofs.Common.{arith}
use Rattle.std.proofs.lemmas.Bool.Decides.{nat_tests}
use Rattle.std.specs.Prelude.{length}
use Rattle.std.specs.Str.{bytes_eq, str_to_ascii_lowercase}
use Rattle.std.specs.Str.Parse.{digits_value}
use Rattle.std.specs.Prelude.{codes}
use Rattle.pfc_base.specs.declared.places.Place.{Place}
use Rattle.pfc_base.specs.declared.faults.Refusal.{Refusal}
use Rattle.pfc_base.specs.declared.tokens.Kind.{Kind}
use Rattle.pfc_base.specs.declared.tokens.Kind.TheVariants.{Name, Number}
use Rattle.pfc_base.specs.declared.tokens.Token.{Token}
use Rattle.pfc_scan.specs.declared.piece.Reading.{Reading}
use Rattle.pfc_scan.specs.declared.piece.Reading.TheVariants as reading
use Rattle.pfc_scan.specs.Pieces.{Reads, white, comment, word, number, real, literal, sign, quoted, numbered_reading, name_reading, word_number}
use Rattle.pfc_scan.specs.Small.{AreBytes, BeginsWithByte, IsSmallKind, AreSmall}
use Rattle.pfc_scan.specs.Cutting.{Cutting, tokens, refusal, with_token, after, BeginsLongest, IsCutFrom, ended, skipped, taken, barred, stuck}

-- ## Bytes

front_bytes : (xs ys : List ℕ) → AreBytes (xs ++ ys) → AreBytes xs
front_bytes [] ys all = tt
front_bytes (x ∷ xs) ys all = (all.0, front_bytes xs ys all.1)

behind_bytes : (xs ys : List ℕ) → AreBytes (xs ++ ys) → AreBytes ys
behind_bytes [] ys all = all
behind_bytes (x ∷ xs) ys all = behind_bytes xs ys all.1

-- ## Pieces

-- a token that is read writes a small number
abbrev IsSmallReading : Reading → Type 0
IsSmallReading reading.Gap = Unit {0}
IsSmallReading (reading.Token kind) = IsSmallKind kind
IsSmallReading (reading.Refused code) = Unit {0}

small_name : (long : Bool) (piece : List ℕ) → IsSmallReading (if long then reading.Refused 106 else reading.Token (Name (str_to_ascii_lowercase piece)))
small_name true piece = tt
small_name false piece = tt

small_unreserved : (refused : Bool) (piece : List ℕ) → IsSmallReading (if refused then reading.Refused 105 else name_reading piece)
small_unreserved true piece = tt
small_unreserved false piece = small_name (nat_lt 63 (length piece)) piece

small_word : (o : Option ℕ) (piece : List ℕ) → IsSmallReading (numbered_reading o piece)
small_word (Some n) piece = tt
small_word None piece = small_unreserved (bytes_eq (codes "real") (str_to_ascii_lowercase piece)) piece

small : (n : ℕ) → nat_lt 2147483647 n ≡ false → n ≤ 2147483647
small n is = grind (arith, nat_tests, is)

small_number : (n : ℕ) (large : Bool) → nat_lt 2147483647 n ≡ large
    → IsSmallReading (if large then reading.Refused 104 else reading.Token (Number (pos n)))
small_number n true is = tt
small_number n false is = (n, refl, small n is)

-- the first byte of a literal is written as it is, or twice
first_written : (b : ℕ) (bytes rest : List ℕ) (quote : Bool) → (b == 39) ≡ quote
    → AreBytes ((if quote then 39 ∷ (39 ∷ quoted bytes) else b ∷ quoted bytes) ++ rest) → b ≤ 255
first_written b bytes rest true is all = grind (arith, nat_tests, is)
first_written b bytes rest false is all = all.0

small_literal : (bytes rest : List ℕ) → AreBytes (quoted bytes ++ rest) → BeginsWithByte bytes
small_literal [] rest all = tt
small_literal (b ∷ bytes) rest all = first_written b bytes rest (b == 39) refl all

small_reading : (piece : List ℕ) (what : Reading) → AreBytes piece → Reads piece what → IsSmallReading what
small_reading piece what all (white is same) = subst IsSmallReading (sym same) tt
small_reading piece what all (comment is same) = subst IsSmallReading (sym same) tt
small_reading piece what all (word is same) = subst IsSmallReading (sym same) (small_word (word_number (str_to_ascii_lowercase piece)) piece)
small_reading piece what all (number is same) =
    subst IsSmallReading (sym same) (small_number (digits_value 10 piece) (nat_lt 2147483647 (digits_value 10 piece)) refl)
small_reading piece what all (real is same) = subst IsSmallReading (sym same) tt
small_reading piece what all (literal bytes is same) =
    subst IsSmallReading (sym same)
    (small_literal bytes (39 ∷ [])
    (let whole : AreBytes (39 ∷ (quoted bytes ++ (39 ∷ []))) = subst (λ (xs : List ℕ). AreBytes xs) is.is all in whole.1))
small_reading piece what all (sign n is same) = subst IsSmallReading (sym same) tt

-- ## Texts

module _ (text piece rest : List ℕ) (what : Reading) (all : AreBytes text) (begins : BeginsLongest text piece rest what) where
  cut_so : AreBytes (piece ++ rest)
  cut_so = subst (λ (xs : List ℕ). AreBytes xs) begins.begins.cut all

  small_piece : IsSmallReading what
  small_piece = small_reading piece what (front_bytes piece rest cut_so) begins.begins.reads

  rest_bytes : AreBytes rest
  rest_bytes = behind_bytes piece rest cut_so

tokens_same : (ts us : List Token) (end end' : Place) → tokens ts end ≡ tokens us end' → ts ≡ us
tokens_same ts us end end' same = cc

no_refusal : (ts : List Token) (end : Place) (r : Refusal) → refusal r ≡ tokens ts end → ⊥
no_refusal ts end r same = cc

-- one token more
one_more :
    (place : Place) (kind : Kind) (left cutting : Cutting) (ts : List Token) (end : Place) → IsSmallKind kind
    → ((us : List Token) (last : Place) → left ≡ tokens us last → AreSmall us)
    → cutting ≡ with_token (record { kind = kind; place = place }) left → cutting ≡ tokens ts end → AreSmall ts
one_more place kind (tokens us last) cutting ts end first others is same =
    subst (λ (xs : List Token). AreSmall xs) (tokens_same (record { kind = kind; place = place } ∷ us) ts last end (sym is ∙ same))
    (first, others us last refl)
one_more place kind (refusal r) cutting ts end first others is same = absurd (no_refusal ts end r (sym is ∙ same))

pub small_cut :
    (place : Place) (text : List ℕ) (cutting : Cutting) → AreBytes text → IsCutFrom place text cutting → (ts : List Token) (end : Place)
    → cutting ≡ tokens ts end → AreSmall ts
small_cut place text cutting all (ended none is) ts end same =
    subst (λ (us : List Token). AreSmall us) (tokens_same [] ts place end (sym is ∙ same)) tt
small_cut place text cutting all (skipped piece rest begins left) ts end same =
    small_cut (after place piece) rest cutting (rest_bytes text piece rest reading.Gap all begins) left ts end same
small_cut place text cutting all (taken piece rest kind left begins behind is) ts end same =
    one_more place kind left cutting ts end (small_piece text piece rest (reading.Token kind) all begins)
    (λ us last e. small_cut (after place piece) rest left (rest_bytes text piece rest (reading.Token kind) all begins) behind us last e) is same
small_cut place text cutting all (barred piece rest code begins is) ts end same =
    absurd (no_refusal ts end (record { code = code; place = place }) (sym is ∙ same))
small_cut place text cutting all (stuck some nothing is) ts end same = absurd (no_refusal ts end _ (sym is ∙ same))
