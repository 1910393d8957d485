-- The first byte of a piece tells of which kind the piece is.
use Rattle.std.proofs.Common.{◌≡◌, ℕ, ◌<◌, Bool, true, false, ◌==◌, cond, ◌⊎◌, inl, inr, List, [], ◌∷◌, ◌++◌, length, get_or, zero, suc, ap, refl, ◌∙◌, sym}
use Rattle.std.proofs.Common.{subst, arith, codes}
use Rattle.std.specs.List.{list_all}
use Rattle.std.specs.Char.{is_ascii_digit}
use Rattle.std.specs.Str.{bytes_eq}
use Rattle.std.proofs.lemmas.Bool.Decides.{nat_tests}
use Rattle.std.proofs.lemmas.Slice.Eq.{bytes_eq-Decides}
use Rattle.std.proofs.lemmas.List.Quantifiers.{position-Some}
use Rattle.pfc_base.specs.Names.{is_letter, is_name_part}
use Rattle.pfc_base.specs.declared.tokens.Kind.TheVariants.{Sign, Literal}
use Rattle.pfc_scan.specs.declared.piece.Reading.{Reading}
use Rattle.pfc_scan.specs.declared.piece.Reading.TheVariants.{Gap, Token, Refused}
use Rattle.pfc_scan.specs.Pieces.{IsWhite, IsClosed, IsWord, IsNumber, IsReal, fraction, scaled, both, IsLiteral, IsSign, signs, is_white, word_reading}
use Rattle.pfc_scan.specs.Pieces.{number_reading, Reads, white, comment, word, number, real, literal, sign}
use Rattle.pfc_scan.specs.declared.piece.First.{First}
use Rattle.pfc_scan.specs.declared.piece.First.TheVariants.{Blank, Brace, Quote, Letter, Digit, Mark}
use Rattle.pfc_scan.specs.Finding.{first_of}
use Rattle.pfc_scan.proofs.Lists.{and_left, and_right}

pub white-first : (b : ℕ) → is_white b ≡ true → first_of b ≡ Blank
white-first b h = ap (λ t. cond t Blank (cond (b == 123) Brace (cond (b == 39) Quote (cond (is_letter b) Letter (cond (is_ascii_digit b) Digit Mark))))) h

pub letter-first : (b : ℕ) → is_letter b ≡ true → first_of b ≡ Letter
letter-first b h = grind (arith, nat_tests)

pub digit-first : (b : ℕ) → is_ascii_digit b ≡ true → first_of b ≡ Digit
digit-first b h = grind (arith, nat_tests)

-- the bytes of a sign: one or two, of which the first begins nothing else
abbrev pub is_mark : ℕ → Bool
is_mark b = elim (first_of b) [ Blank ↦ false | Brace ↦ false | Quote ↦ false | Letter ↦ false | Digit ↦ false | Mark ↦ true ]

mark-first : (b : ℕ) → is_mark b ≡ true → first_of b ≡ Mark
mark-first b h = go (first_of b) h
  where
    go : (f : First) → (elim f [ Blank ↦ false | Brace ↦ false | Quote ↦ false | Letter ↦ false | Digit ↦ false | Mark ↦ true ]) ≡ true → f ≡ Mark
    go Blank h = cc
    go Brace h = cc
    go Quote h = cc
    go Letter h = cc
    go Digit h = cc
    go Mark h = refl

abbrev pub is_sign_shaped : List ℕ → Bool
is_sign_shaped [] = false
is_sign_shaped (b ∷ []) = is_mark b
is_sign_shaped (b ∷ c ∷ []) = is_mark b
is_sign_shaped (b ∷ c ∷ d ∷ rest) = false

all-at : (xs : List (List ℕ)) (i : ℕ) → i < length xs → list_all is_sign_shaped xs ≡ true → is_sign_shaped (get_or xs i []) ≡ true
all-at [] i h a = absurd (omega arith)
all-at (x ∷ xs) zero h a = and_left (is_sign_shaped x) (list_all is_sign_shaped xs) a
all-at (x ∷ xs) (suc i) h a = all-at xs i (omega arith) (and_right (is_sign_shaped x) (list_all is_sign_shaped xs) a)

pub sign-shape : (piece : List ℕ) (n : ℕ) → IsSign n piece → is_sign_shaped piece ≡ true
sign-shape piece n h =
    let found = position-Some (λ s. bytes_eq s piece) signs n [] h in
    let same : get_or signs n [] ≡ piece = (bytes_eq-Decides (get_or signs n []) piece).0 found.1 in
    subst (λ p. is_sign_shaped p ≡ true) same (all-at signs n found.0 refl)

-- ---- of which kind a piece is, by its first byte

abbrev pub Sort : First → List ℕ → Reading → Type 0
Sort Blank piece reading = IsWhite piece × (reading ≡ Gap)
Sort Brace piece reading = IsClosed (codes "{") (codes "}") piece × (reading ≡ Gap)
Sort Quote piece reading = (bytes : List ℕ) × IsLiteral bytes piece × (reading ≡ Token (Literal bytes))
Sort Letter piece reading = IsWord piece × (reading ≡ word_reading piece)
Sort Digit piece reading = (IsNumber piece × (reading ≡ number_reading piece)) ⊎ (IsReal piece × (reading ≡ Refused 105))
Sort Mark piece reading = (IsClosed (codes "(*") (codes "*)") piece × (reading ≡ Gap)) ⊎ ((n : ℕ) × IsSign n piece × (reading ≡ Token (Sign n)))

-- the piece has a first byte, and is of its kind
pub record Sorted (piece : List ℕ) (reading : Reading) : Type 0 where
  pub byte : ℕ
  pub bytes : List ℕ
  pub is : piece ≡ byte ∷ bytes
  pub sort : Sort (first_of byte) piece reading

sorted_by : (piece : List ℕ) (reading : Reading) (b : ℕ) (bytes : List ℕ) (f : First) → piece ≡ b ∷ bytes → first_of b ≡ f →
    Sort f piece reading → Sorted piece reading
sorted_by piece reading b bytes f is first s = record { byte = b; bytes = bytes; is = is; sort = subst (λ g. Sort g piece reading) (sym first) s }

sorted_word : (piece : List ℕ) (reading : Reading) → IsWord piece → reading ≡ word_reading piece → Sorted piece reading
sorted_word [] reading h r = cc
sorted_word (b ∷ bytes) reading h r =
    sorted_by (b ∷ bytes) reading b bytes Letter refl (letter-first b (and_left (is_letter b) (list_all is_name_part bytes) h)) (h, r)

sorted_number : (piece : List ℕ) (reading : Reading) → IsNumber piece → reading ≡ number_reading piece → Sorted piece reading
sorted_number [] reading h r = cc
sorted_number (b ∷ bytes) reading h r =
    sorted_by (b ∷ bytes) reading b bytes Digit refl (digit-first b (and_left (is_ascii_digit b) (list_all is_ascii_digit bytes) h)) (inl (h, r))

-- a number in front makes the first byte a Digit
sorted_real : (whole more piece : List ℕ) (reading : Reading) → IsNumber whole → piece ≡ whole ++ more → IsReal piece →
    reading ≡ Refused 105 → Sorted piece reading
sorted_real [] more piece reading n e h r = cc
sorted_real (b ∷ whole) more piece reading n e h r =
    sorted_by piece reading b (whole ++ more) Digit e (digit-first b (and_left (is_ascii_digit b) (list_all is_ascii_digit whole) n)) (inr (h, r))

sorted_sign : (piece : List ℕ) (reading : Reading) (n : ℕ) → IsSign n piece → reading ≡ Token (Sign n) → is_sign_shaped piece ≡ true → Sorted piece reading
sorted_sign [] reading n h r s = cc
sorted_sign (b ∷ []) reading n h r s = sorted_by (b ∷ []) reading b [] Mark refl (mark-first b s) (inr (n, h, r))
sorted_sign (b ∷ c ∷ []) reading n h r s = sorted_by (b ∷ c ∷ []) reading b (c ∷ []) Mark refl (mark-first b s) (inr (n, h, r))
sorted_sign (b ∷ c ∷ d ∷ rest) reading n h r s = cc

pub sorted : (piece : List ℕ) (reading : Reading) → Reads piece reading → Sorted piece reading
sorted piece reading (white h r) = sorted_by piece reading h.byte [] Blank h.is (white-first h.byte h.white) (h, r)
sorted piece reading (comment (inl h) r) = sorted_by piece reading 123 (h.body ++ codes "}") Brace h.is refl (h, r)
sorted piece reading (comment (inr h) r) = sorted_by piece reading 40 (42 ∷ (h.body ++ codes "*)")) Mark h.is refl (inl (h, r))
sorted piece reading (word h r) = sorted_word piece reading h r
sorted piece reading (number h r) = sorted_number piece reading h r
sorted piece reading (real (fraction whole digits n d is) r) = sorted_real whole (46 ∷ digits) piece reading n is (fraction whole digits n d is) r
sorted piece reading (real (scaled whole scale n s is) r) = sorted_real whole scale piece reading n is (scaled whole scale n s is) r
sorted piece reading (real (both whole digits scale n d s is) r) =
    sorted_real whole (46 ∷ (digits ++ scale)) piece reading n is (both whole digits scale n d s is) r
sorted piece reading (literal bytes h r) = sorted_by piece reading 39 _ Quote h.is refl (bytes, h, r)
sorted piece reading (sign n h r) = sorted_sign piece reading n h r (sign-shape piece n h)

-- the kind of a piece that begins with this byte
pub sort_at : (f : First) (b : ℕ) (bytes piece rest : List ℕ) (reading : Reading) → first_of b ≡ f → b ∷ bytes ≡ piece ++ rest →
    Reads piece reading → Sort f piece reading
sort_at f b bytes piece rest reading first cut h =
    let s = sorted piece reading h in
    let e : b ∷ bytes ≡ (s.byte ∷ s.bytes) ++ rest = cut ∙ ap (λ p. p ++ rest) s.is in
    let same : s.byte ≡ b = cc in
    subst (λ g. Sort g piece reading) (ap first_of same ∙ first) s.sort
