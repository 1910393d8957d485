-- The computed cutting is the cutting of the text.
use Rattle.std.proofs.Common.{◌≡◌, ℕ, zero, suc, ◌+◌, ◌-◌, ◌<◌, ◌≤◌, Bool, true, false, ◌&&◌, ◌||◌, ◌==◌, cond, if◌then◌else◌, inl, inr, List, [], ◌∷◌, length}
use Rattle.std.proofs.Common.{take, drop, slice_index, Option, Some, None, codes, refl, sym, ap, ◌∙◌, arith}
use Rattle.std.specs.List.{prefix_len, starts_with}
use Rattle.std.specs.Char.{is_ascii_digit}
use Rattle.std.proofs.lemmas.Bool.{or_cases, and_parts, eqb-true}
use Rattle.std.proofs.lemmas.Bool.Decides.{nat_tests}
use Rattle.std.proofs.lemmas.List.{length-drop}
use Rattle.std.proofs.lemmas.List.Sums.{prefix_len-le-length}
use Rattle.pfc_base.specs.Names.{is_letter, is_name_part}
use Rattle.pfc_base.specs.declared.places.Place.{Place}
use Rattle.pfc_scan.specs.declared.piece.First.{First}
use Rattle.pfc_scan.specs.declared.piece.First.TheVariants.{Blank, Brace, Quote, Letter, Digit, Mark}
use Rattle.pfc_scan.specs.declared.piece.Piece.{Piece}
use Rattle.pfc_scan.specs.declared.piece.Reading.{Reading}
use Rattle.pfc_scan.specs.declared.piece.Reading.TheVariants.{Gap, Token, Refused}
use Rattle.pfc_scan.specs.Pieces.{is_white, sign_number}
use Rattle.pfc_scan.specs.Cutting.{Cutting, opens_comment, after, text_start, IsCut, IsCutFrom, ended, skipped, taken, barred, stuck}
use Rattle.pfc_scan.specs.Finding.{first_of, IsNext, IsNextPiece, brace_close, star_close, quote_close, unquoted, double_number, fraction_len, power_len}
use Rattle.pfc_scan.specs.Finding.{scale_len, real_len}
use Rattle.pfc_scan.specs.Computed.{comment_piece, literal_piece, number_piece, single_sign, sign_piece, piece_by, next_piece, cut_behind, cut_at, cut_from}
use Rattle.pfc_scan.specs.Computed.{cut}
use Rattle.pfc_scan.proofs.Fronts.{white_next, word_next}
use Rattle.pfc_scan.proofs.Closers.{brace_next, brace_none, star_next, star_none}
use Rattle.pfc_scan.proofs.Quotes.{literal_next, literal_none}
use Rattle.pfc_scan.proofs.Reals.{number_next}
use Rattle.pfc_scan.proofs.Marks.{sign_double, sign_single, sign_none}

-- ---- what a real literal has behind its digits lies within the text

either_within : (t : Bool) (a b n : ℕ) → a ≤ n → b ≤ n → cond t a b ≤ n
either_within true a b n h k = h
either_within false a b n h k = k

digits_within : (text : List ℕ) → prefix_len is_ascii_digit text ≤ length text
digits_within text = prefix_len-le-length is_ascii_digit text

fraction_within : (text : List ℕ) → fraction_len text ≤ length text
fraction_within [] = omega arith
fraction_within (b ∷ text) = let d = digits_within text in either_within (b == 46 && is_ascii_digit (slice_index text 0)) _ _ _ (omega arith) (omega arith)

power_within : (text : List ℕ) → power_len text ≤ length text
power_within [] = omega arith
power_within (b ∷ text) =
    let d = digits_within text in
    either_within (is_ascii_digit b) _ _ _ (digits_within (b ∷ text))
    (either_within ((b == 43 || b == 45) && is_ascii_digit (slice_index text 0)) _ _ _ (omega arith) (omega arith))

scale_within : (text : List ℕ) → scale_len text ≤ length text
scale_within [] = omega arith
scale_within (b ∷ text) =
    let p = power_within text in
    either_within (b == 69 || b == 101) _ _ _ (either_within (power_len text == 0) _ _ _ (omega arith) (omega arith)) (omega arith)

real_within : (text : List ℕ) → real_len text ≤ length text
real_within text =
    let f = fraction_within text in
    let s = scale_within (drop (fraction_len text) text) in
    let d : length (drop (fraction_len text) text) ≡ length text - fraction_len text = length-drop (fraction_len text) text in
    omega arith

-- ---- the first byte

-- what the kind of a first byte says of it
abbrev Says : ℕ → First → Type 0
Says b Blank = is_white b ≡ true
Says b Brace = (b == 123) ≡ true
Says b Quote = (b == 39) ≡ true
Says b Letter = is_letter b ≡ true
Says b Digit = is_ascii_digit b ≡ true
Says b Mark = Unit {0}

says_by : (b : ℕ) (t u v w x : Bool) → is_white b ≡ t → (b == 123) ≡ u → (b == 39) ≡ v → is_letter b ≡ w → is_ascii_digit b ≡ x
    → Says b (cond t Blank (cond u Brace (cond v Quote (cond w Letter (cond x Digit Mark)))))
says_by b true u v w x a c d e f = a
says_by b false true v w x a c d e f = c
says_by b false false true w x a c d e f = d
says_by b false false false true x a c d e f = e
says_by b false false false false true a c d e f = f
says_by b false false false false false a c d e f = tt

says : (b : ℕ) → Says b (first_of b)
says b = says_by b _ _ _ _ _ refl refl refl refl refl

-- ---- the piece at the front

brace_is : (text : List ℕ) (o : Option ℕ) → slice_index text 0 ≡ 123 → brace_close 0 (drop 1 text) ≡ o → IsNext text (comment_piece 1 o)
brace_is text None h e = brace_none text h e
brace_is text (Some n) h e = brace_next text n h e

star_is : (text : List ℕ) (o : Option ℕ) → slice_index text 0 ≡ 40 → slice_index text 1 ≡ 42 →
    star_close false 0 (drop 2 text) ≡ o → IsNext text (comment_piece 2 o)
star_is text None h k e = star_none text h k e
star_is text (Some n) h k e = star_next text n h k e

literal_is : (text : List ℕ) (o : Option ℕ) → slice_index text 0 ≡ 39 → quote_close false (drop 1 text) ≡ o → IsNext text (literal_piece text o)
literal_is text None h e = literal_none text h e
literal_is text (Some n) h e = literal_next text (unquoted false (take (n - 1) (drop 1 text))) n h e refl

if_true : (t : Bool) (a b : Reading) → t ≡ true → cond t a b ≡ a
if_true true a b h = refl
if_true false a b h = cc

if_false : (t : Bool) (a b : Reading) → t ≡ false → cond t a b ≡ b
if_false true a b h = cc
if_false false a b h = refl

is_zero : (n : ℕ) → n ≡ 0 → (n == 0) ≡ true
is_zero n h = grind (arith, nat_tests)

is_more : (n : ℕ) → 0 < n → (n == 0) ≡ false
is_more n h = grind (arith, nat_tests)

number_is : (text : List ℕ) (tail : ℕ) → is_ascii_digit (slice_index text 0) ≡ true → tail ≡ real_len (drop (prefix_len is_ascii_digit text) text)
    → prefix_len is_ascii_digit text + tail ≤ length text → IsNextPiece text (number_piece text (prefix_len is_ascii_digit text) tail)
number_is text tail h e k =
    number_next text tail _ h e k (λ x. if_true (tail == 0) _ _ (is_zero tail x)) (λ x. if_false (tail == 0) _ _ (is_more tail x))

single_is :
    (text : List ℕ) (o : Option ℕ) → 0 < length text → first_of (slice_index text 0) ≡ Mark → opens_comment text ≡ false → double_number text ≡ None
    → sign_number (slice_index text 0 ∷ []) ≡ o → IsNext text (single_sign o)
single_is text None some first closed d e = sign_none text some first closed d e
single_is text (Some n) some first closed d e = sign_single text n some first closed d e

sign_is : (text : List ℕ) (o : Option ℕ) → 0 < length text → first_of (slice_index text 0) ≡ Mark → opens_comment text ≡ false → double_number text ≡ o
    → IsNext text (sign_piece text o)
sign_is text None some first closed e = single_is text _ some first closed e refl
sign_is text (Some n) some first closed e = sign_double text n first closed e

abbrev begins_with : List ℕ → List ℕ → Bool
begins_with text front = starts_with (λ a b. a == b) text front

star_first : (rest : List ℕ) → begins_with rest (codes "*") ≡ true → slice_index rest 0 ≡ 42
star_first [] h = cc
star_first (c ∷ rest) h = sym (eqb-true 42 c (and_parts (42 == c) true h).0)

mark_opened :
    (b : ℕ) (rest : List ℕ) → first_of b ≡ Mark → opens_comment (b ∷ rest) ≡ true
    → IsNext (b ∷ rest) (comment_piece 2 (star_close false 0 (drop 2 (b ∷ rest))))
mark_opened b rest first h =
    elim (or_cases (begins_with (b ∷ rest) (codes "{")) (begins_with (b ∷ rest) (codes "(*")) h) [
      | inl e ↦ (
          let same : 123 ≡ b = eqb-true 123 b (and_parts (123 == b) true e).0 in
          let x : Brace ≡ Mark = ap first_of same ∙ first in absurd (cc))
      | inr e ↦ (
          let parts = and_parts (40 == b) (begins_with rest (codes "*")) e in
          star_is (b ∷ rest) _ (sym (eqb-true 40 b parts.0)) (star_first rest parts.1) refl)
    ]

mark_is : (b : ℕ) (rest : List ℕ) (o : Bool) → first_of b ≡ Mark → opens_comment (b ∷ rest) ≡ o
    → IsNext (b ∷ rest) (if o then comment_piece 2 (star_close false 0 (drop 2 (b ∷ rest))) else sign_piece (b ∷ rest) (double_number (b ∷ rest)))
mark_is b rest true first h = mark_opened b rest first h
mark_is b rest false first h = sign_is (b ∷ rest) _ (omega arith) first h refl

piece_is : (b : ℕ) (rest : List ℕ) (f : First) → first_of b ≡ f → Says b f → IsNext (b ∷ rest) (piece_by f (b ∷ rest))
piece_is b rest Blank first h = white_next (b ∷ rest) h
piece_is b rest Brace first h = brace_is (b ∷ rest) _ (eqb-true b 123 h) refl
piece_is b rest Quote first h = literal_is (b ∷ rest) _ (eqb-true b 39 h) refl
piece_is b rest Letter first h = word_next (b ∷ rest) _ h (prefix_len-le-length is_name_part (b ∷ rest)) refl
piece_is b rest Digit first h =
    let n = prefix_len is_ascii_digit (b ∷ rest) in
    let d = digits_within (b ∷ rest) in
    let r = real_within (drop (prefix_len is_ascii_digit (b ∷ rest)) (b ∷ rest)) in
    let l = length-drop (prefix_len is_ascii_digit (b ∷ rest)) (b ∷ rest) in
    number_is (b ∷ rest) _ h refl (omega arith)
piece_is b rest Mark first h = mark_is b rest _ first refl

next_is : (b : ℕ) (rest : List ℕ) → IsNext (b ∷ rest) (next_piece (b ∷ rest))
next_is b rest = piece_is b rest (first_of b) refl (says b)

-- ---- the cutting

-- what each shorter text is cut to
abbrev CutsAll : ℕ → (Place → List ℕ → Cutting) → Type 0
CutsAll n more = (place : Place) (text : List ℕ) → length text ≤ n → IsCutFrom place text (more place text)

behind_is : (n : ℕ) (more : Place → List ℕ → Cutting) → CutsAll n more → (place : Place) (text : List ℕ) (m : ℕ) (r : Reading)
    → length text ≤ suc n → IsNextPiece text (record { length = m; reading = r }) → IsCutFrom place text (cut_behind place text m r more)
behind_is n more all place text m r h next =
    let l : length (drop m text) ≡ length text - m = length-drop m text in
    let some : 0 < m = next.some in
    let few : length (drop m text) ≤ n = omega arith in
    go r next few
  where
    go : (r : Reading) → IsNextPiece text (record { length = m; reading = r }) → length (drop m text) ≤ n
        → IsCutFrom place text (cut_behind place text m r more)
    go Gap next few = skipped (take m text) (drop m text) next.longest (all (after place (take m text)) (drop m text) few)
    go (Token kind) next few =
        taken (take m text) (drop m text) kind (more (after place (take m text)) (drop m text)) next.longest
        (all (after place (take m text)) (drop m text) few) refl
    go (Refused code) next few = barred (take m text) (drop m text) code next.longest refl

at_is : (n : ℕ) (more : Place → List ℕ → Cutting) → CutsAll n more → (place : Place) (b : ℕ) (bytes : List ℕ) (o : Option Piece)
    → length (b ∷ bytes) ≤ suc n → IsNext (b ∷ bytes) o → IsCutFrom place (b ∷ bytes) (cut_at place (b ∷ bytes) o more)
at_is n more all place b bytes None h none = stuck (λ e. (let l : length (b ∷ bytes) ≡ 0 = ap length e in absurd (omega arith))) none refl
at_is n more all place b bytes (Some p) h next = behind_is n more all place (b ∷ bytes) p.length p.reading h next

cut_from_is : (n : ℕ) (place : Place) (text : List ℕ) → length text ≤ n → IsCutFrom place text (cut_from n place text)
cut_from_is n place [] h = ended refl refl
cut_from_is zero place (b ∷ bytes) h = absurd (omega arith)
cut_from_is (suc n) place (b ∷ bytes) h = at_is n (cut_from n) (cut_from_is n) place b bytes (next_piece (b ∷ bytes)) h (next_is b bytes)

pub cut_is : (text : List ℕ) → IsCut text (cut text)
cut_is text = cut_from_is (length text) text_start text (omega arith)
