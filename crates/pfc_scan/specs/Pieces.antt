-- The pieces that a text is cut into: what the bytes of each kind are.
use Rattle.std.specs.Prelude.{◌≡◌, ◌≢◌, ℕ, pos, Bool, true, false, not, ◌&&◌, ◌||◌, ◌==◌, nat_lt, if◌then◌else◌, ◌⊎◌, List, [], ◌∷◌, ◌++◌, length, Option, Some}
use Rattle.std.specs.Prelude.{None, codes}
use Rattle.std.specs.List.{list_all, position}
use Rattle.std.specs.Char.{is_ascii_digit}
use Rattle.std.specs.Str.{bytes_eq, str_to_ascii_lowercase}
use Rattle.std.specs.Str.Parse.{digits_value}
use Rattle.pfc_base.specs.Names.{is_word_shaped}
use Rattle.pfc_base.specs.declared.tokens.Kind.TheVariants.{Word, Sign, Name, Number, Literal}
use Rattle.pfc_scan.specs.declared.piece.Reading.{Reading}
use Rattle.pfc_scan.specs.declared.piece.Reading.TheVariants.{Gap, Token, Refused}

-- ---- white space and comments

-- tab, line end, carriage return and space
abbrev pub is_white : ℕ → Bool
is_white b = b == 9 || b == 10 || b == 13 || b == 32

-- a white byte
pub record IsWhite (piece : List ℕ) : Type 0 where
  pub byte : ℕ
  pub is : piece ≡ byte ∷ []
  pub white : is_white byte ≡ true

-- an opener and all up to the next closer, whatever it holds
pub record IsClosed (opener closer piece : List ℕ) : Type 0 where
  pub body : List ℕ
  pub is : piece ≡ opener ++ (body ++ closer)
  pub next : (before after : List ℕ) → body ≢ before ++ (closer ++ after)

-- a comment: each opener has its own closer
abbrev pub IsComment : List ℕ → Type 0
IsComment piece = IsClosed (codes "{") (codes "}") piece ⊎ IsClosed (codes "(*") (codes "*)") piece

-- ---- words and names

-- the reserved words, in the order of their numbers
abbrev pub reserved_words : List (List ℕ)
reserved_words =
    codes "accept" ∷ codes "and" ∷ codes "array" ∷ codes "begin" ∷ codes "case" ∷ codes "channel" ∷ codes "cobegin" ∷ codes "coend" ∷ codes "const"
    ∷ codes "div" ∷ codes "do" ∷ codes "downto" ∷ codes "else" ∷ codes "end" ∷ codes "entry" ∷ codes "export" ∷ codes "for" ∷ codes "forever" ∷ codes "function"
    ∷ codes "guarded" ∷ codes "if" ∷ codes "mod" ∷ codes "monitor" ∷ codes "not" ∷ codes "null" ∷ codes "of" ∷ codes "or" ∷ codes "pri" ∷ codes "procedure"
    ∷ codes "process" ∷ codes "program" ∷ codes "record" ∷ codes "repeat" ∷ codes "replicate" ∷ codes "requeue" ∷ codes "resource" ∷ codes "select"
    ∷ codes "terminate" ∷ codes "then" ∷ codes "timeout" ∷ codes "to" ∷ codes "type" ∷ codes "until" ∷ codes "var" ∷ codes "when" ∷ codes "while" ∷ []

-- the number of the reserved word that these bytes are, if they are one
abbrev pub word_number : List ℕ → Option ℕ
word_number bytes = position (λ w. bytes_eq w bytes) reserved_words

-- a letter, and then letters, digits and `_`
abbrev pub IsWord : List ℕ → Type 0
IsWord piece = is_word_shaped piece ≡ true

-- ---- numbers

-- digits, at least one
abbrev pub is_number : List ℕ → Bool
is_number [] = false
is_number (b ∷ bytes) = is_ascii_digit b && list_all is_ascii_digit bytes

abbrev pub IsNumber : List ℕ → Type 0
IsNumber piece = is_number piece ≡ true

-- the power of ten behind an `e`: a number, perhaps with a sign before it
abbrev pub is_power : List ℕ → Bool
is_power [] = false
is_power (b ∷ bytes) = is_number (b ∷ bytes) || ((b == 43 || b == 45) && is_number bytes)

-- `e` or `E`, and the power
abbrev pub is_scale : List ℕ → Bool
is_scale [] = false
is_scale (b ∷ bytes) = (b == 69 || b == 101) && is_power bytes

-- a real literal: a number and behind it a fraction, a scale or both
pub data IsReal (piece : List ℕ) : Type 0 where
  fraction : (whole digits : List ℕ) → IsNumber whole → IsNumber digits → piece ≡ whole ++ (46 ∷ digits) → IsReal piece
  scaled : (whole scale : List ℕ) → IsNumber whole → is_scale scale ≡ true → piece ≡ whole ++ scale → IsReal piece
  both : (whole digits scale : List ℕ) → IsNumber whole → IsNumber digits → is_scale scale ≡ true → piece ≡ whole ++ (46 ∷ (digits ++ scale)) → IsReal piece

-- ---- literals

-- how bytes are written between the quotes of a literal: a quote is written twice
abbrev pub quoted : List ℕ → List ℕ
quoted [] = []
quoted (b ∷ bytes) = if b == 39 then 39 ∷ (39 ∷ quoted bytes) else b ∷ quoted bytes

-- the literal of these bytes, which holds no end of a line
pub record IsLiteral (bytes piece : List ℕ) : Type 0 where
  pub is : piece ≡ 39 ∷ (quoted bytes ++ (39 ∷ []))
  pub one_line : list_all (λ b. not (b == 10)) bytes ≡ true

-- ---- signs

-- the signs, in the order of their numbers
abbrev pub signs : List (List ℕ)
signs =
    codes "+" ∷ codes "-" ∷ codes "*" ∷ codes "=" ∷ codes "<>" ∷ codes "<" ∷ codes "<=" ∷ codes ">" ∷ codes ">=" ∷ codes "(" ∷ codes ")"
    ∷ codes "[" ∷ codes "]" ∷ codes ":=" ∷ codes "." ∷ codes ".." ∷ codes "," ∷ codes ";" ∷ codes ":" ∷ codes "!" ∷ codes "?" ∷ codes "=>" ∷ []

-- the number of the sign that these bytes are, if they are one
abbrev pub sign_number : List ℕ → Option ℕ
sign_number bytes = position (λ s. bytes_eq s bytes) signs

-- the piece is the sign of this number
abbrev pub IsSign : ℕ → List ℕ → Type 0
IsSign number piece = sign_number piece ≡ Some number

-- ---- what a piece is read as: a gap, a token, or a refusal with its code

-- a word that is not reserved: a name, unless it is above 63 bytes
abbrev pub name_reading : List ℕ → Reading
name_reading piece = if nat_lt 63 (length piece) then Refused 106 else Token (Name (str_to_ascii_lowercase piece))

-- a word by its number: reserved, the refused word `real`, or a name
abbrev pub numbered_reading : Option ℕ → List ℕ → Reading
numbered_reading (Some number) piece = Token (Word number)
numbered_reading None piece = if bytes_eq (codes "real") (str_to_ascii_lowercase piece) then Refused 105 else name_reading piece

-- a word, whatever the case of its letters
abbrev pub word_reading : List ℕ → Reading
word_reading piece = numbered_reading (word_number (str_to_ascii_lowercase piece)) piece

-- a number of at most 2147483647
abbrev pub number_reading : List ℕ → Reading
number_reading piece = if nat_lt 2147483647 (digits_value 10 piece) then Refused 104 else Token (Number (pos (digits_value 10 piece)))

-- the piece has this reading
pub data Reads (piece : List ℕ) (reading : Reading) : Type 0 where
  white : IsWhite piece → reading ≡ Gap → Reads piece reading
  comment : IsComment piece → reading ≡ Gap → Reads piece reading
  word : IsWord piece → reading ≡ word_reading piece → Reads piece reading
  number : IsNumber piece → reading ≡ number_reading piece → Reads piece reading
  real : IsReal piece → reading ≡ Refused 105 → Reads piece reading
  literal : (bytes : List ℕ) → IsLiteral bytes piece → reading ≡ Token (Literal bytes) → Reads piece reading
  sign : (n : ℕ) → IsSign n piece → reading ≡ Token (Sign n) → Reads piece reading
