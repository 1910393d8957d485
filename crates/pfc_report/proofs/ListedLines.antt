-- The listing, line by line.
use Rattle.std.proofs.Common.{◌≡◌, ℕ, ◌+◌, ◌<◌, ◌≤◌, ◌==◌, Bool, true, false, Some, None, List, [], ◌∷◌, ◌++◌, length, take, drop, refl, ap, append-nil, ◌∙◌}
use Rattle.std.proofs.Common.{arith}
use Rattle.std.specs.List.{flat_map, enumerate_from, slice_split, position, position_or_len}
use Rattle.std.proofs.lemmas.Bool.Decides.{nat_tests}
use Rattle.std.proofs.lemmas.List.Splits.{slice_split_first, slice_split_none, length-slice_split}
use Rattle.std.proofs.lemmas.List.Sums.{position_or_len_is, fails_before_first}
use Rattle.std.proofs.lemmas.List.Quantifiers.{position-Some}
use Rattle.pfc_report.specs.Listings.{lines_of, lines_of_parts, listed_line}

-- byte 10 ends a line
abbrev is_end : ℕ → Bool
is_end byte = byte == 10

-- the listing of a text whose first line has this number
abbrev pub listing_from : ℕ → List ℕ → List ℕ
listing_from number text = flat_map (λ numbered. listed_line numbered.0 numbered.1) (enumerate_from number (lines_of text))

-- a part that another follows is a line
lines_of_parts-cons : (part : List ℕ) (parts : List (List ℕ)) → 0 < length parts → lines_of_parts (part ∷ parts) ≡ part ∷ lines_of_parts parts
lines_of_parts-cons part [] some = absurd (omega arith)
lines_of_parts-cons part (next ∷ parts) some = refl

-- the first line, and the rest
lines_of-cons : (text : List ℕ) (end : ℕ) → position_or_len is_end text ≡ end → end < length text →
    lines_of text ≡ take end text ∷ lines_of (drop (end + 1) text)
lines_of-cons text end is inside =
    let within : position_or_len is_end text < length text = rw is inside in
    let parts : slice_split is_end text ≡ take end text ∷ slice_split is_end (drop (end + 1) text) = rw is at (slice_split_first is_end text 0 within) in
    let more : 0 < length (slice_split is_end (drop (end + 1) text)) = omega (arith, length-slice_split is_end (drop (end + 1) text)) in
    ap lines_of_parts parts ∙ lines_of_parts-cons (take end text) (slice_split is_end (drop (end + 1) text)) more

-- the listing begins with the first line
pub listing_from-line : (number : ℕ) (text : List ℕ) (end : ℕ) → position is_end text ≡ Some end →
    listing_from number text ≡ listed_line number (take end text) ++ listing_from (number + 1) (drop (end + 1) text)
listing_from-line number text end found =
    let first = position-Some is_end text end 0 found in
    let within : end ≤ length text = omega arith in
    let is : position_or_len is_end text ≡ end = position_or_len_is is_end text end 0 within first.2 (λ _. first.1) in
    rw (lines_of-cons text end is first.0) refl

-- no place is the first at which a line ends
none_within : (text : List ℕ) → position is_end text ≡ None → length text ≤ position_or_len is_end text
none_within text none = grind (arith, nat_tests)

-- an empty text has no line
pub listing_from-empty : (number : ℕ) (text : List ℕ) → (length text == 0) ≡ true → listing_from number text ≡ []
listing_from-empty number [] empty = refl
listing_from-empty number (byte ∷ text) empty = absurd (grind (arith, nat_tests))

-- another text without a byte 10 is its last line
pub listing_from-last : (number : ℕ) (text : List ℕ) → position is_end text ≡ None → (length text == 0) ≡ false →
    listing_from number text ≡ listed_line number text
listing_from-last number text none some =
    let within : length text ≤ position_or_len is_end text = none_within text none in
    let parts : slice_split is_end text ≡ text ∷ [] = slice_split_none is_end text (λ k d below. fails_before_first is_end text k d (omega arith)) in
    rw (parts, some) (append-nil (listed_line number text))
