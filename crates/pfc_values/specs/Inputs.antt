-- Input: what is left of it, and what is read from it.
use Rattle.std.specs.Prelude.{ℕ, ◌+◌, ◌-◌, ◌*◌, ℤ, pos, neg_ℤ, nat_le, ◌==◌, Bool, true, false, ◌&&◌, ◌||◌, if◌then◌else◌, List, [], ◌∷◌, Result, Ok, Err}
use Rattle.pfc_base.specs.declared.faults.RunFault.{RunFault}
use Rattle.pfc_base.specs.declared.faults.RunFault.TheVariants.{InputEnd, NoInteger}
use Rattle.pfc_values.specs.declared.simple.Simple.{Simple}
use Rattle.pfc_values.specs.declared.simple.Simple.TheVariants.{Integer, Boolean, Char}
use Rattle.pfc_values.specs.Numbers.{Outcome, fitting}

-- the input: what is left of it, and whether the whole of it is empty or ends with byte 10
pub record Left : Type 0 where
  pub bytes : List ℕ
  pub whole_lines : Bool

-- a byte 13 directly before a byte 10 is dropped
abbrev pub without_returns : List ℕ → List ℕ
without_returns [] = []
without_returns (b ∷ []) = b ∷ []
without_returns (b ∷ (d ∷ rest)) = if b == 13 && d == 10 then without_returns (d ∷ rest) else b ∷ without_returns (d ∷ rest)

-- an item of the input with what is left behind it
pub record Item : Type 0 where
  pub value : ℤ
  pub left : List ℕ

-- ## Integers

abbrev pub is_blank : ℕ → Bool
is_blank b = (b == 9 || b == 10) || b == 32

abbrev pub behind_blanks : List ℕ → List ℕ
behind_blanks [] = []
behind_blanks (b ∷ rest) = if is_blank b then behind_blanks rest else b ∷ rest

abbrev pub is_digit : ℕ → Bool
is_digit b = nat_le 48 b && nat_le b 57

-- the digits at the front, and what is behind them
abbrev pub digits : List ℕ → List ℕ
digits [] = []
digits (b ∷ rest) = if is_digit b then b ∷ digits rest else []

abbrev pub behind_digits : List ℕ → List ℕ
behind_digits [] = []
behind_digits (b ∷ rest) = if is_digit b then behind_digits rest else b ∷ rest

-- the number that digits write behind those of n
abbrev pub number_behind : ℕ → List ℕ → ℕ
number_behind n [] = n
number_behind n (b ∷ rest) = number_behind (n * 10 + (b - 48)) rest

-- a number that was read, with what is left behind it
abbrev pub read_to : List ℕ → Outcome → Result Item RunFault
read_to left (Ok v) = Ok (record { value = v; left = left })
read_to left (Err f) = Err f

-- an integer whose sign was read
abbrev pub unsigned_item : Bool → List ℕ → List ℕ → Result Item RunFault
unsigned_item negative bytes [] = Err NoInteger
unsigned_item negative bytes (d ∷ ds) =
    let n = pos (number_behind 0 (d ∷ ds)) in
    let v = if negative then neg_ℤ n else n in
    read_to (behind_digits bytes) (fitting v)

-- an optional sign and digits
abbrev pub signed_item : List ℕ → Result Item RunFault
signed_item [] = Err InputEnd
signed_item (b ∷ rest) =
    if b == 43
    then unsigned_item false rest (digits rest)
    else if b == 45
    then unsigned_item true rest (digits rest)
    else unsigned_item false (b ∷ rest) (digits (b ∷ rest))

-- Blanks are skipped. Fault 7 where nothing is left, fault 8 where no digit stands, fault 1 where the value does not fit.
abbrev pub integer_item : List ℕ → Result Item RunFault
integer_item input = signed_item (behind_blanks input)

-- ## Chars, and lines

-- one byte; a line end reads as a space
abbrev pub char_item : List ℕ → Result Item RunFault
char_item [] = Err InputEnd
char_item (b ∷ rest) = Ok (record { value = pos (if b == 10 then 32 else b); left = rest })

-- the item for a variable of this type; a boolean is never read
abbrev pub item : Simple → List ℕ → Result Item RunFault
item Integer input = integer_item input
item Boolean input = char_item input
item Char input = char_item input

-- what is left behind the next byte 10, or nothing where there is none
abbrev pub behind_line : List ℕ → List ℕ
behind_line [] = []
behind_line (b ∷ rest) = if b == 10 then rest else behind_line rest

-- the input ends with a byte 10, or is empty
abbrev pub ends_lines : List ℕ → Bool
ends_lines [] = true
ends_lines (b ∷ []) = b == 10
ends_lines (b ∷ (c ∷ rest)) = ends_lines (c ∷ rest)

-- The skip of a `readln`. At the end of an input that is empty or ends with byte 10 it is fault 7; at the end of any other input it
-- does nothing, so a last line needs no line end.
abbrev pub skipped : Bool → List ℕ → Result (List ℕ) RunFault
skipped whole_lines [] = if whole_lines then Err InputEnd else Ok []
skipped whole_lines (b ∷ rest) = Ok (behind_line (b ∷ rest))

-- an input before anything is read
abbrev pub opened : List ℕ → Left
opened bytes = record { bytes = without_returns bytes; whole_lines = ends_lines (without_returns bytes) }

abbrev pub at_end : List ℕ → Bool
at_end [] = true
at_end (b ∷ rest) = false

-- at the end, or before a byte 10
abbrev pub at_line_end : List ℕ → Bool
at_line_end [] = true
at_line_end (b ∷ rest) = b == 10
