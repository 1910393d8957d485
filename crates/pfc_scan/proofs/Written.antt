-- What is between the tokens of a cutting.
use Rattle.std.proofs.Common.{◌≡◌, ◌≢◌, ℕ, ◌⊎◌, inl, inr, Bool, true, false, cond, Option, Some, None, List, [], ◌∷◌, ◌++◌, length, nat_lt, pos, codes, ap}
use Rattle.std.proofs.Common.{refl, ◌∙◌, sym, subst}
use Rattle.std.specs.Str.{bytes_eq, str_to_ascii_lowercase}
use Rattle.std.specs.Str.Parse.{digits_value}
use Rattle.std.proofs.lemmas.List.{append_assoc}
use Rattle.pfc_base.specs.declared.places.Place.{Place}
use Rattle.pfc_base.specs.declared.tokens.Kind.{Kind}
use Rattle.pfc_base.specs.declared.tokens.Kind.TheVariants.{Word, Name, Number}
use Rattle.pfc_base.specs.declared.tokens.Token.{Token}
use Rattle.pfc_scan.specs.declared.piece.Reading.{Reading}
use Rattle.pfc_scan.specs.declared.piece.Reading.TheVariants as reading
use Rattle.pfc_scan.specs.Pieces.{IsWhite, IsComment, Reads, white, comment, word, number, real, literal, sign, name_reading, numbered_reading, number_reading}
use Rattle.pfc_scan.specs.Pieces.{word_number}
use Rattle.pfc_scan.specs.Cutting.{after, after_byte, Cutting, tokens, refusal, with_token, IsCutFrom, ended, skipped, taken, barred, stuck, nothing, more}
use Rattle.pfc_scan.specs.Cutting.{IsWritten}

-- ---- what reads as a gap is white space or a comment

cond_no_gap : (t : Bool) (a b : Reading) → a ≢ reading.Gap → b ≢ reading.Gap → cond t a b ≢ reading.Gap
cond_no_gap true a b h k = h
cond_no_gap false a b h k = k

token_no_gap : (k : Kind) → reading.Token k ≢ reading.Gap
token_no_gap k e = cc

refused_no_gap : (code : ℕ) → reading.Refused code ≢ reading.Gap
refused_no_gap code e = cc

name_no_gap : (piece : List ℕ) → name_reading piece ≢ reading.Gap
name_no_gap piece = cond_no_gap (nat_lt 63 (length piece)) _ _ (refused_no_gap 106) (token_no_gap (Name (str_to_ascii_lowercase piece)))

word_no_gap : (piece : List ℕ) (o : Option ℕ) → numbered_reading o piece ≢ reading.Gap
word_no_gap piece (Some n) = token_no_gap (Word n)
word_no_gap piece None = cond_no_gap (bytes_eq (codes "real") (str_to_ascii_lowercase piece)) _ _ (refused_no_gap 105) (name_no_gap piece)

number_no_gap : (piece : List ℕ) → number_reading piece ≢ reading.Gap
number_no_gap piece = cond_no_gap (nat_lt 2147483647 (digits_value 10 piece)) _ _ (refused_no_gap 104) (token_no_gap (Number (pos (digits_value 10 piece))))

gap_is : (piece : List ℕ) → Reads piece reading.Gap → IsWhite piece ⊎ IsComment piece
gap_is piece (white h r) = inl h
gap_is piece (comment h r) = inr h
gap_is piece (word h r) = absurd (word_no_gap piece (word_number (str_to_ascii_lowercase piece)) (sym r))
gap_is piece (number h r) = absurd (number_no_gap piece (sym r))
gap_is piece (real h r) = absurd (cc)
gap_is piece (literal bytes h r) = absurd (cc)
gap_is piece (sign n h r) = absurd (cc)

-- ---- places add up

after-append : (place : Place) (a b : List ℕ) → after place (a ++ b) ≡ after (after place a) b
after-append place [] b = refl
after-append place (c ∷ a) b = after-append (after_byte place c) a b

-- a gap in front
gap_before : (place : Place) (ts : List Token) (end : Place) (text piece rest : List ℕ) → text ≡ piece ++ rest → IsWhite piece ⊎ IsComment piece →
    IsWritten (after place piece) ts end rest → IsWritten place ts end text
gap_before place [] end text piece rest cut gap w = (more piece rest cut gap w.0, w.1 ∙ sym (ap (after place) cut ∙ after-append place piece rest))
gap_before place (t ∷ ts) end text piece rest cut gap w = (
  piece ++ w.0,
  w.1,
  w.2,
  cut ∙ ap (λ x. piece ++ x) w.3 ∙ sym (append_assoc piece w.0 (w.1 ++ w.2)),
  more piece w.0 refl gap w.4,
  w.5 ∙
      sym (after-append place piece w.0),
  w.6,
  w.7,
)

token_before : (place : Place) (kind : Kind) (ts : List Token) (end : Place) (text piece rest : List ℕ) → text ≡ piece ++ rest →
    Reads piece (reading.Token kind) → IsWritten (after place piece) ts end rest
    → IsWritten place (record { kind = kind; place = place } ∷ ts) end text
token_before place kind ts end text piece rest cut reads w = ([], piece, rest, cut, nothing refl, refl, reads, w)

nothing_left : (place : Place) (ts : List Token) (end : Place) (text : List ℕ) → text ≡ [] → tokens [] place ≡ tokens ts end → IsWritten place ts end text
nothing_left place [] end text e h = (nothing e, (let same : place ≡ end = cc in sym same) ∙ sym (ap (after place) e))
nothing_left place (t ∷ ts) end text e h = absurd (let same : [] ≡ t ∷ ts = cc in cc)

pub written : {place : Place} {text : List ℕ} {c : Cutting} → IsCutFrom place text c → (ts : List Token) (end : Place) →
    c ≡ tokens ts end → IsWritten place ts end text
written {place} {text} (ended e x) ts end h = nothing_left place ts end text e (sym x ∙ h)
written {place} {text} (skipped piece rest b k) ts end h =
    gap_before place ts end text piece rest b.begins.cut (gap_is piece b.begins.reads) (written k ts end h)
written {place} {text} (taken piece rest kind left b k x) ts end h = go left ts (sym x ∙ h) (written k)
  where
    go : (l : Cutting) (ts : List Token) → with_token (record { kind = kind; place = place }) l ≡ tokens ts end →
        ((us : List Token) (e : Place) → l ≡ tokens us e → IsWritten (after place piece) us e rest) → IsWritten place ts end text
    go (tokens us e) ts h later =
        let same : record { kind = kind; place = place } ∷ us ≡ ts = cc in
        let last : e ≡ end = cc in
        subst (λ z. IsWritten place ts z text) last
        (subst (λ z. IsWritten place z e text) same (token_before place kind us e text piece rest b.begins.cut b.begins.reads (later us e refl)))
    go (refusal r) ts h later = absurd (cc)
written (barred piece rest code b x) ts end h = absurd (let e : refusal _ ≡ tokens ts end = sym x ∙ h in cc)
written (stuck some none x) ts end h = absurd (let e : refusal _ ≡ tokens ts end = sym x ∙ h in cc)
