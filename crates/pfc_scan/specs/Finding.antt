-- How the scanner finds the piece at the front of a text: the contracts of its parts.
-- What a piece is, and which one is taken, stands in `Pieces` and `Cutting`.
use Rattle.std.specs.Prelude.{ℕ, ◌+◌, ◌<◌, ◌≤◌, Bool, true, false, ◌&&◌, ◌||◌, ◌==◌, nat_lt, if◌then◌else◌, List, [], ◌∷◌, length, take, drop, slice_index}
use Rattle.std.specs.Prelude.{Option, Some, None, option_map, unwrap_or, suc}
use Rattle.std.specs.List.{prefix_len}
use Rattle.std.specs.Char.{is_ascii_digit}
use Rattle.std.specs.Str.{bytes_eq}
use Rattle.pfc_base.specs.Names.{is_letter}
use Rattle.pfc_scan.specs.declared.piece.First.{First}
use Rattle.pfc_scan.specs.declared.piece.First.TheVariants.{Blank, Brace, Quote, Letter, Digit, Mark}
use Rattle.pfc_scan.specs.declared.piece.Piece.{Piece}
use Rattle.pfc_scan.specs.Pieces.{is_white, sign_number}
use Rattle.pfc_scan.specs.Cutting.{BeginsLongest, NothingBegins}

-- what a first byte can begin
abbrev pub first_of : ℕ → First
first_of b = if is_white b then
    Blank else (if b == 123 then Brace else (if b == 39 then Quote else (if is_letter b then Letter else (if is_ascii_digit b then Digit else Mark))))

-- the piece is the longest that begins the text
pub record IsNextPiece (text : List ℕ) (p : Piece) : Type 0 where
  pub some : 0 < p.length
  pub within : p.length ≤ length text
  pub longest : BeginsLongest text (take p.length text) (drop p.length text) p.reading

-- the piece is the longest that begins the text, and without one nothing begins it
abbrev pub IsNext : List ℕ → Option Piece → Type 0
IsNext text None = NothingBegins text
IsNext text (Some p) = IsNextPiece text p

-- ---- comments: the place behind the closer, for a text that begins at place `at`

abbrev pub brace_close : ℕ → List ℕ → Option ℕ
brace_close at [] = None
brace_close at (b ∷ text) = if b == 125 then Some (at + 1) else brace_close (at + 1) text

-- `is_after_star` says that a `*` stands before
abbrev pub star_close : Bool → ℕ → List ℕ → Option ℕ
star_close is_after_star at [] = None
star_close is_after_star at (b ∷ text) = if is_after_star && b == 41 then Some (at + 1) else star_close (b == 42) (at + 1) text

-- ---- words

-- the number of the first of these words that the bytes are, where the first word has this number
abbrev pub found_from : ℕ → List (List ℕ) → List ℕ → Option ℕ
found_from number [] bytes = None
found_from number (w ∷ words) bytes = if bytes_eq w bytes then Some number else found_from (number + 1) words bytes

-- ---- signs

-- the number of the sign that the first two bytes are, if they are one
abbrev pub double_number : List ℕ → Option ℕ
double_number text = if nat_lt 1 (length text) then sign_number (slice_index text 0 ∷ (slice_index text 1 ∷ [])) else None

-- ---- literals

-- how many bytes the longest literal has behind its first quote; `is_after_quote` says that a quote stands before, which may be the last one
abbrev pub quote_close : Bool → List ℕ → Option ℕ
quote_close false [] = None
quote_close true [] = Some 0
quote_close false (b ∷ text) = if b == 39 then option_map suc (quote_close true text) else (if b == 10 then None else option_map suc (quote_close false text))
quote_close true (b ∷ text) = if b == 39 then Some (unwrap_or (option_map suc (quote_close false text)) 0) else Some 0

-- where `n` more bytes close it, the place behind them, and else the place that was found before
abbrev pub closed_or : Option ℕ → ℕ → Option ℕ → Option ℕ
closed_or before at None = before
closed_or before at (Some n) = Some (at + n)

-- the bytes between the quotes, without each second quote; `is_after_quote` says that a first one stands before
abbrev pub unquoted : Bool → List ℕ → List ℕ
unquoted is_after_quote [] = []
unquoted is_after_quote (b ∷ bytes) = if is_after_quote && b == 39 then unquoted false bytes else b ∷ unquoted (b == 39) bytes

-- ---- numbers: how many bytes a fraction and a scale have

abbrev pub fraction_len : List ℕ → ℕ
fraction_len text = if slice_index text 0 == 46 && is_ascii_digit (slice_index text 1) then 1 + prefix_len is_ascii_digit (drop 1 text) else 0

abbrev pub power_len : List ℕ → ℕ
power_len text =
    if is_ascii_digit (slice_index text 0) then prefix_len is_ascii_digit text
    else (if (slice_index text 0 == 43 || slice_index text 0 == 45) && is_ascii_digit (slice_index text 1) then
    1 + prefix_len is_ascii_digit (drop 1 text) else 0)

abbrev pub scale_len : List ℕ → ℕ
scale_len text = if slice_index text 0 == 69 || slice_index text 0 == 101 then (if power_len (drop 1 text) == 0 then 0 else 1 + power_len (drop 1 text)) else 0

-- how many bytes a real literal has behind its first digits
abbrev pub real_len : List ℕ → ℕ
real_len text = fraction_len text + scale_len (drop (fraction_len text) text)
