-- The cutting of a text as a function: it is computed piece by piece.
use Rattle.std.specs.Prelude.{ℕ, zero, suc, ◌+◌, ◌-◌, ◌==◌, if◌then◌else◌, false, List, [], ◌∷◌, length, take, drop, slice_index, Option, Some, None}
use Rattle.std.specs.List.{prefix_len}
use Rattle.std.specs.Char.{is_ascii_digit}
use Rattle.pfc_base.specs.declared.places.Place.{Place}
use Rattle.pfc_base.specs.declared.tokens.Kind.TheVariants.{Sign, Literal}
use Rattle.pfc_base.specs.Names.{is_name_part}
use Rattle.pfc_scan.specs.declared.piece.First.{First}
use Rattle.pfc_scan.specs.declared.piece.First.TheVariants.{Blank, Brace, Quote, Letter, Digit, Mark}
use Rattle.pfc_scan.specs.declared.piece.Piece.{Piece}
use Rattle.pfc_scan.specs.declared.piece.Reading.{Reading}
use Rattle.pfc_scan.specs.declared.piece.Reading.TheVariants.{Gap, Token as AToken, Refused}
use Rattle.pfc_scan.specs.Pieces.{sign_number, word_reading, number_reading}
use Rattle.pfc_scan.specs.Cutting.{Cutting, tokens, refusal, with_token, opens_comment, cause_of, after, text_start}
use Rattle.pfc_scan.specs.Finding.{first_of, brace_close, star_close, quote_close, unquoted, double_number, real_len}

-- ## The piece at the front of a text

abbrev pub piece_of : ℕ → Reading → Piece
piece_of n reading = record { length = n; reading = reading }

-- a comment whose opener has so many bytes, where it is closed
abbrev pub comment_piece : ℕ → Option ℕ → Option Piece
comment_piece opener None = None
comment_piece opener (Some n) = Some (piece_of (opener + n) Gap)

abbrev pub literal_piece : List ℕ → Option ℕ → Option Piece
literal_piece text None = None
literal_piece text (Some n) = Some (piece_of (1 + n) (AToken (Literal (unquoted false (take (n - 1) (drop 1 text))))))

-- digits, with as many bytes of a real literal behind them
abbrev pub number_piece : List ℕ → ℕ → ℕ → Piece
number_piece text digits tail = piece_of (digits + tail) (if tail == 0 then number_reading (take digits text) else Refused 105)

abbrev pub single_sign : Option ℕ → Option Piece
single_sign None = None
single_sign (Some n) = Some (piece_of 1 (AToken (Sign n)))

abbrev pub sign_piece : List ℕ → Option ℕ → Option Piece
sign_piece text None = single_sign (sign_number (slice_index text 0 ∷ []))
sign_piece text (Some n) = Some (piece_of 2 (AToken (Sign n)))

abbrev pub mark_piece : List ℕ → Option Piece
mark_piece text = if opens_comment text then comment_piece 2 (star_close false 0 (drop 2 text)) else sign_piece text (double_number text)

-- the longest piece at the front of a text, by its first byte
abbrev pub piece_by : First → List ℕ → Option Piece
piece_by Blank text = Some (piece_of 1 Gap)
piece_by Brace text = comment_piece 1 (brace_close 0 (drop 1 text))
piece_by Quote text = literal_piece text (quote_close false (drop 1 text))
piece_by Letter text = let n = prefix_len is_name_part text in Some (piece_of n (word_reading (take n text)))
piece_by Digit text = let n = prefix_len is_ascii_digit text in Some (number_piece text n (real_len (drop n text)))
piece_by Mark text = mark_piece text

abbrev pub next_piece : List ℕ → Option Piece
next_piece text = piece_by (first_of (slice_index text 0)) text

-- ## The cutting of a text

-- behind a piece of so many bytes: what the rest is cut to is given
abbrev pub cut_behind : Place → List ℕ → ℕ → Reading → (Place → List ℕ → Cutting) → Cutting
cut_behind place text n Gap more = more (after place (take n text)) (drop n text)
cut_behind place text n (AToken kind) more = with_token (record { kind = kind; place = place }) (more (after place (take n text)) (drop n text))
cut_behind place text n (Refused code) more = refusal (record { code = code; place = place })

abbrev pub cut_at : Place → List ℕ → Option Piece → (Place → List ℕ → Cutting) → Cutting
cut_at place text None more = refusal (record { code = cause_of text; place = place })
cut_at place text (Some p) more = cut_behind place text p.length p.reading more

-- Of a text at a place: each piece has a byte, so there are no more pieces than bytes.
abbrev pub cut_from : ℕ → Place → List ℕ → Cutting
cut_from n place [] = tokens [] place
cut_from zero place (b ∷ bytes) = tokens [] place
cut_from (suc n) place (b ∷ bytes) = cut_at place (b ∷ bytes) (next_piece (b ∷ bytes)) (λ q rest. cut_from n q rest)

-- what a text is cut to
abbrev pub cut : List ℕ → Cutting
cut text = cut_from (length text) text_start text
