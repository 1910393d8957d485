-- The tokens of a text: the text cut into the longest pieces.
use Rattle.std.specs.Prelude.{◌≡◌, ◌≢◌, ℕ, ◌+◌, ◌≤◌, Bool, true, ◌||◌, ◌==◌, ◌⊎◌, if◌then◌else◌, List, [], ◌∷◌, ◌++◌, length, codes}
use Rattle.std.specs.List.{starts_with}
use Rattle.pfc_base.specs.declared.places.Place.{Place}
use Rattle.pfc_base.specs.declared.tokens.Kind.{Kind}
use Rattle.pfc_base.specs.declared.tokens.Token.{Token}
use Rattle.pfc_base.specs.declared.faults.Refusal.{Refusal}
use Rattle.pfc_scan.specs.declared.piece.Reading.{Reading}
use Rattle.pfc_scan.specs.declared.piece.Reading.TheVariants as reading
use Rattle.pfc_scan.specs.Pieces.{Reads, IsWhite, IsComment}

-- ---- places

-- the first place of a text
abbrev pub text_start : Place
text_start = record { line = 1; column = 1 }

-- the place after a byte: byte 10 ends a line
abbrev pub after_byte : Place → ℕ → Place
after_byte place b = if b == 10 then record { line = place.line + 1; column = 1 } else record { line = place.line; column = place.column + 1 }

-- the place after some bytes
abbrev pub after : Place → List ℕ → Place
after place [] = place
after place (b ∷ bytes) = after (after_byte place b) bytes

-- ---- the longest piece

-- the text begins with `{` or with `(*`
abbrev pub opens_comment : List ℕ → Bool
opens_comment text = starts_with (λ a b. a == b) text (codes "{") || starts_with (λ a b. a == b) text (codes "(*")

-- a piece begins the text, and `rest` is left behind it; where a comment is opened, nothing but the comment begins
pub record Begins (text piece rest : List ℕ) (what : Reading) : Type 0 where
  pub cut : text ≡ piece ++ rest
  pub reads : Reads piece what
  pub opened : opens_comment text ≡ true → IsComment piece

-- the longest piece that begins the text
pub record BeginsLongest (text piece rest : List ℕ) (what : Reading) : Type 0 where
  pub begins : Begins text piece rest what
  pub longest : (other left : List ℕ) (as_what : Reading) → Begins text other left as_what → length other ≤ length piece

-- no piece begins the text
abbrev pub NothingBegins : List ℕ → Type 0
NothingBegins text = (piece rest : List ℕ) (what : Reading) → Begins text piece rest what → ⊥

-- why no piece begins: a comment or a literal is opened and not closed, or the byte begins no piece
abbrev pub cause_of : List ℕ → ℕ
cause_of text = if opens_comment text then 102 else (if starts_with (λ a b. a == b) text (codes "'") then 103 else 101)

-- ---- the cutting

-- what a text is cut to: its tokens and the place of its end, or a refusal
pub data Cutting : Type 0 where
  tokens : List Token → Place → Cutting
  refusal : Refusal → Cutting

-- one more token before the tokens of a cutting
abbrev pub with_token : Token → Cutting → Cutting
with_token t (tokens ts end) = tokens (t ∷ ts) end
with_token t (refusal r) = refusal r

-- what is left of a text at a place is cut to this: each piece is the longest that begins at its place,
-- and the first place where no piece begins, or where the piece is refused for itself, refuses the text
pub data IsCutFrom : Place → List ℕ → Cutting → Type 0 where
  ended : {place : Place} {text : List ℕ} {cutting : Cutting} → text ≡ [] → cutting ≡ tokens [] place → IsCutFrom place text cutting
  skipped : {place : Place} {text : List ℕ} {cutting : Cutting} (piece rest : List ℕ) → BeginsLongest text piece rest reading.Gap
      → IsCutFrom (after place piece) rest cutting → IsCutFrom place text cutting
  taken : {place : Place} {text : List ℕ} {cutting : Cutting} (piece rest : List ℕ) (kind : Kind) (left : Cutting) →
      BeginsLongest text piece rest (reading.Token kind)
      → IsCutFrom (after place piece) rest left → cutting ≡ with_token (record { kind = kind; place = place }) left → IsCutFrom place text cutting
  barred : {place : Place} {text : List ℕ} {cutting : Cutting} (piece rest : List ℕ) (code : ℕ) → BeginsLongest text piece rest (reading.Refused code)
      → cutting ≡ refusal (record { code = code; place = place }) → IsCutFrom place text cutting
  stuck : {place : Place} {text : List ℕ} {cutting : Cutting} → text ≢ [] → NothingBegins text
      → cutting ≡ refusal (record { code = cause_of text; place = place }) → IsCutFrom place text cutting

-- the text is cut to this
abbrev pub IsCut : List ℕ → Cutting → Type 0
IsCut text cutting = IsCutFrom text_start text cutting

-- ---- between the tokens

-- white bytes and comments, and nothing else
pub data IsBlank : List ℕ → Type 0 where
  nothing : {text : List ℕ} → text ≡ [] → IsBlank text
  more : {text : List ℕ} (piece rest : List ℕ) → text ≡ piece ++ rest → IsWhite piece ⊎ IsComment piece → IsBlank rest → IsBlank text

-- the text from a place on: before each token nothing but blanks, then at its place the bytes that read as it, and after the last token blanks up to the end
abbrev pub IsWritten : Place → List Token → Place → List ℕ → Type 0
IsWritten place [] end text = IsBlank text × (end ≡ after place text)
IsWritten place (t ∷ ts) end text =
    (blank piece rest : List ℕ) × (text ≡ blank ++ (piece ++ rest)) × IsBlank blank × (t.place ≡ after place blank) × Reads piece (reading.Token t.kind) ×
    IsWritten (after t.place piece) ts end rest
