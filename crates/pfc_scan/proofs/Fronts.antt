-- A piece found at the front of a text is the longest there, or nothing begins.
use Rattle.std.proofs.Common.{◌≡◌, ℕ, ◌<◌, ◌≤◌, Bool, true, false, ◌==◌, ◌⊎◌, inl, inr, List, [], ◌∷◌, ◌++◌, length, take, suc, slice_index, ap, refl, ◌∙◌, sym}
use Rattle.std.proofs.Common.{subst, arith, codes}
use Rattle.std.specs.List.{list_all, prefix_len, starts_with}
use Rattle.std.proofs.lemmas.Bool.{or_cases, and_parts, eqb-true, or_left}
use Rattle.std.proofs.lemmas.List.{take-append-drop, length-take-le}
use Rattle.pfc_base.specs.Names.{is_letter, is_name_part}
use Rattle.pfc_scan.specs.declared.piece.First.{First}
use Rattle.pfc_scan.specs.declared.piece.First.TheVariants.{Blank, Brace, Quote, Letter, Digit, Mark}
use Rattle.pfc_scan.specs.declared.piece.Reading.{Reading}
use Rattle.pfc_scan.specs.declared.piece.Reading.TheVariants.{Gap}
use Rattle.pfc_scan.specs.Pieces.{IsComment, IsWord, is_white, word_reading, Reads, white, word}
use Rattle.pfc_scan.specs.Cutting.{NothingBegins, opens_comment}
use Rattle.pfc_scan.specs.Finding.{first_of, IsNextPiece}
use Rattle.pfc_scan.proofs.Lists.{prefix-least, prefix-passes}
use Rattle.pfc_scan.proofs.Firsts.{Sort, sort_at, white-first, letter-first}

-- ---- a text that opens a comment

abbrev begins_with : List ℕ → List ℕ → Bool
begins_with text front = starts_with (λ a b. a == b) text front

pub opens-first : (b : ℕ) (text : List ℕ) → opens_comment (b ∷ text) ≡ true → (b ≡ 123) ⊎ (b ≡ 40)
opens-first b text h =
    elim (or_cases (begins_with (b ∷ text) (codes "{")) (begins_with (b ∷ text) (codes "(*")) h) [
      | inl e ↦ inl (sym (eqb-true 123 b (and_parts (123 == b) true e).0))
      | inr e ↦ inr (sym (eqb-true 40 b (and_parts (40 == b) (begins_with text (codes "*")) e).0))
    ]

-- neither `{` nor `(`
abbrev pub is_plain : First → Bool
is_plain Blank = true
is_plain Brace = false
is_plain Quote = true
is_plain Letter = true
is_plain Digit = true
is_plain Mark = false

plain-opens : (f : First) (b : ℕ) (text : List ℕ) → first_of b ≡ f → is_plain f ≡ true → opens_comment (b ∷ text) ≡ true → ⊥
plain-opens f b text first plain h =
    elim (opens-first b text h) [
      | inl e ↦ (let x : Brace ≡ f = sym (ap first_of e) ∙ first in let y : is_plain Brace ≡ true = ap is_plain x ∙ plain in cc)
      | inr e ↦ (let x : Mark ≡ f = sym (ap first_of e) ∙ first in let y : is_plain Mark ≡ true = ap is_plain x ∙ plain in cc)
    ]

-- ---- the piece of so many bytes

-- each piece that begins the text is at most this long
abbrev pub AtMost : First → List ℕ → ℕ → Type 0
AtMost f text n = (other left : List ℕ) (r : Reading) → text ≡ other ++ left → Sort f other r → (opens_comment text ≡ true → IsComment other) → length other ≤ n

pub next_by : (f : First) (b : ℕ) (rest : List ℕ) (n : ℕ) (r : Reading) → first_of b ≡ f → 0 < n → n ≤ length (b ∷ rest) → Reads (take n (b ∷ rest)) r
    → (opens_comment (b ∷ rest) ≡ true → IsComment (take n (b ∷ rest))) → AtMost f (b ∷ rest) n → IsNextPiece (b ∷ rest) (record { length = n; reading = r })
next_by f b rest n r first some within reads opened most = record {
  some = some;
  within = within;
  longest = record {
    begins = record { cut = sym (take-append-drop n (b ∷ rest)); reads = reads; opened = opened };
    longest = λ other left s begins. rw (length-take-le n (b ∷ rest) within)
        (most other left s begins.cut (sort_at f b rest other left s first begins.cut begins.reads) begins.opened);
  };
}

-- a piece that is no comment, where none is opened
pub next_plain : (f : First) (b : ℕ) (rest : List ℕ) (n : ℕ) (r : Reading) → first_of b ≡ f → is_plain f ≡ true → 0 < n → n ≤ length (b ∷ rest)
    → Reads (take n (b ∷ rest)) r → AtMost f (b ∷ rest) n → IsNextPiece (b ∷ rest) (record { length = n; reading = r })
next_plain f b rest n r first plain some within reads most =
    next_by f b rest n r first some within reads (λ h. absurd (plain-opens f b rest first plain h)) most

pub nothing_by : (f : First) (b : ℕ) (rest : List ℕ) → first_of b ≡ f
    → ((other left : List ℕ) (r : Reading) → b ∷ rest ≡ other ++ left → Sort f other r → (opens_comment (b ∷ rest) ≡ true → IsComment other) → ⊥) →
    NothingBegins (b ∷ rest)
nothing_by f b rest first none other left r begins = none other left r begins.cut (sort_at f b rest other left r first begins.cut begins.reads) begins.opened

-- ---- white space

pub white_next : (text : List ℕ) → is_white (slice_index text 0) ≡ true → IsNextPiece text (record { length = 1; reading = Gap })
white_next [] h = cc
white_next (b ∷ rest) h =
    next_plain Blank b rest 1 Gap (white-first b h) refl (omega arith) (omega arith) (white (record { byte = b; is = refl; white = h }) refl)
    (λ other left r cut sort opened. rw (sort.0.is) (omega arith))

-- ---- words

word-parts : (piece : List ℕ) → IsWord piece → list_all is_name_part piece ≡ true
word-parts [] h = refl
word-parts (b ∷ rest) h =
    let parts = and_parts (is_letter b) (list_all is_name_part rest) h in
    let first : is_name_part b ≡ true = or_left _ _ (or_left _ _ parts.0) in
    rw first parts.1

pub word_front : (text : List ℕ) → is_letter (slice_index text 0) ≡ true → IsWord (take (prefix_len is_name_part text) text)
word_front [] h = cc
word_front (b ∷ rest) h =
    let first : is_name_part b ≡ true = or_left _ _ (or_left _ _ h) in
    let n : suc (prefix_len is_name_part rest) ≡ prefix_len is_name_part (b ∷ rest) = rw first (omega arith) in
    subst (λ n. IsWord (take n (b ∷ rest))) n (rw h (prefix-passes is_name_part rest))

pub word_next : (text : List ℕ) (r : Reading) → is_letter (slice_index text 0) ≡ true → prefix_len is_name_part text ≤ length text
    → r ≡ word_reading (take (prefix_len is_name_part text) text) → IsNextPiece text (record { length = prefix_len is_name_part text; reading = r })
word_next [] r h within is = cc
word_next (b ∷ rest) r h within is =
    let first : is_name_part b ≡ true = or_left _ _ (or_left _ _ h) in
    let some : 0 < prefix_len is_name_part (b ∷ rest) = rw first (omega arith) in
    next_plain Letter b rest (prefix_len is_name_part (b ∷ rest)) r (letter-first b h) refl some within (word (word_front (b ∷ rest) h) is)
    (λ other left s cut sort opened. subst (λ t. length other ≤ prefix_len is_name_part t) (sym cut)
    (prefix-least is_name_part other left (word-parts other sort.0)))
