-- The codes with which a text is refused.
use Rattle.std.proofs.Common.{◌≡◌, ℕ, Bool, true, false, cond, nat_lt, List, [], ◌∷◌, sym, ◌==◌, length, Option, Some, None, ap, ◌∙◌, subst, codes, refl}
use Rattle.std.specs.List.{starts_with}
use Rattle.std.specs.Str.{bytes_eq, str_to_ascii_lowercase}
use Rattle.std.specs.Str.Parse.{digits_value}
use Rattle.pfc_base.specs.declared.places.Place.{Place}
use Rattle.pfc_base.specs.declared.tokens.Kind.{Kind}
use Rattle.pfc_base.specs.declared.tokens.Kind.TheVariants.{Name, Word}
use Rattle.pfc_base.specs.declared.tokens.Token.{Token as ScannedToken}
use Rattle.pfc_base.specs.declared.faults.Refusal.{Refusal}
use Rattle.pfc_scan.specs.declared.piece.Reading.TheVariants.{Gap, Token, Refused}
use Rattle.pfc_scan.specs.Pieces.{Reads, word_number, name_reading, numbered_reading, white, comment, word, number, real, literal, sign}
use Rattle.pfc_scan.specs.Cutting.{Cutting, tokens, refusal, with_token, IsCutFrom, opens_comment, after, ended, skipped, taken, barred, stuck}
use Rattle.pfc_scan.specs.Scanning.{IsScanCode, bad_byte, open_comment, open_literal, large_number, real_number, long_name}

of_code : (c d : ℕ) → Refused c ≡ Refused d → IsScanCode d → IsScanCode c
of_code c d e h = let same : d ≡ c = cc in subst IsScanCode same h

name_code : (long : Bool) (x : List ℕ) (c : ℕ) → Refused c ≡ cond long (Refused 106) (Token (Name x)) → IsScanCode c
name_code true x c e = of_code c 106 e (long_name refl)
name_code false x c e = absurd (let no : Refused c ≡ Token (Name x) = e in cc)

word_code : (n : Option ℕ) (is_real : Bool) (piece : List ℕ) (c : ℕ) → bytes_eq (codes "real") (str_to_ascii_lowercase piece) ≡ is_real →
    Refused c ≡ numbered_reading n piece → IsScanCode c
word_code (Some n) r piece c q e = absurd (let no : Refused c ≡ Token (Word n) = e in cc)
word_code None true piece c q e = of_code c 105 (e ∙ ap (λ t. cond t (Refused 105) (name_reading piece)) q) (real_number refl)
word_code None false piece c q e = name_code (nat_lt 63 (length piece)) (str_to_ascii_lowercase piece) c (e ∙
    ap (λ t. cond t (Refused 105) (name_reading piece)) q)

number_code : (large : Bool) (k : Kind) (c : ℕ) → Refused c ≡ cond large (Refused 104) (Token k) → IsScanCode c
number_code true k c e = of_code c 104 e (large_number refl)
number_code false k c e = absurd (let no : Refused c ≡ Token k = e in cc)

reading_code : (piece : List ℕ) (c : ℕ) → Reads piece (Refused c) → IsScanCode c
reading_code piece c (white h e) = absurd (let no : Refused c ≡ Gap = e in cc)
reading_code piece c (comment h e) = absurd (let no : Refused c ≡ Gap = e in cc)
reading_code piece c (word h e) = word_code (word_number (str_to_ascii_lowercase piece)) (bytes_eq (codes "real") (str_to_ascii_lowercase piece)) piece c refl e
reading_code piece c (number h e) = number_code (nat_lt 2147483647 (digits_value 10 piece)) _ c e
reading_code piece c (real h e) = of_code c 105 e (real_number refl)
reading_code piece c (literal bytes h e) = absurd (let no : Refused c ≡ Token _ = e in cc)
reading_code piece c (sign n h e) = absurd (let no : Refused c ≡ Token _ = e in cc)

cause_code : (comment_opened literal_opened : Bool) → IsScanCode (cond comment_opened 102 (cond literal_opened 103 101))
cause_code true l = open_comment refl
cause_code false true = open_literal refl
cause_code false false = bad_byte refl

refused_code : (r s : Refusal) → refusal r ≡ refusal s → IsScanCode s.code → IsScanCode r.code
refused_code r s e h = let same : s ≡ r = cc in subst (λ (x : Refusal). IsScanCode x.code) same h

left_refused : (t : ScannedToken) (left : Cutting) (r : Refusal) → refusal r ≡ with_token t left → left ≡ refusal r
left_refused t (tokens ts end) r e = absurd (let no : refusal r ≡ tokens (t ∷ ts) end = e in cc)
left_refused t (refusal s) r e = let same : refusal r ≡ refusal s = e in cc

pub cut_code : (place : Place) (text : List ℕ) (cutting : Cutting) (r : Refusal) → IsCutFrom place text cutting → cutting ≡ refusal r → IsScanCode r.code
cut_code place text cutting r (ended h e) q = absurd (let no : tokens [] place ≡ refusal r = cc in cc)
cut_code place text cutting r (skipped piece rest h cut) q = cut_code (after place piece) rest cutting r cut q
cut_code place text cutting r (taken piece rest kind left h cut e) q = cut_code (after place piece) rest left r cut (left_refused _ left r (sym q ∙ e))
cut_code place text cutting r (barred piece rest code h e) q = refused_code r _ (sym q ∙ e) (reading_code piece code h.begins.reads)
cut_code place text cutting r (stuck some none e) q =
    refused_code r _ (sym q ∙ e) (cause_code (opens_comment text) (starts_with (λ a b. a == b) text (codes "'")))

pub fault_code : (text : List ℕ) (r : Refusal) → IsCutFrom (record { line = 1; column = 1 }) text (refusal r) → IsScanCode r.code
fault_code text r cut = cut_code _ text (refusal r) r cut refl
