-- What output pieces hold.
use Rattle.std.specs.Prelude.{ℕ, ◌-◌, ℤ, pos, unsigned_abs, int_le, Bool, ◌&&◌, if◌then◌else◌, List, [], ◌∷◌, ◌++◌, length, replicate, codes, Option, Some}
use Rattle.std.specs.Prelude.{None, Result, Ok, Err}
use Rattle.std.specs.Fmt.{signed_decimal}
use Rattle.std.specs.Int.{int_rem_euclid}
use Rattle.pfc_base.specs.declared.faults.RunFault.{RunFault}
use Rattle.pfc_base.specs.declared.faults.RunFault.TheVariants.{Width}
use Rattle.pfc_values.specs.declared.simple.Simple.{Simple}
use Rattle.pfc_values.specs.declared.simple.Simple.TheVariants.{Integer, Boolean, Char}
use Rattle.pfc_values.specs.Numbers.{is_true}

-- an integer prints its digits with `-` where it is negative, a boolean `true` or `false`, a char its byte; of a number that is no byte the lowest one counts
abbrev pub shown : Simple → ℤ → List ℕ
shown Integer n = signed_decimal n
shown Boolean n = if is_true n then codes "true" else codes "false"
shown Char n = unsigned_abs (int_rem_euclid n (pos 256)) ∷ []

-- a width is from 0 to 255
abbrev pub is_width : ℤ → Bool
is_width w = int_le (pos 0) w && int_le w (pos 255)

-- Blanks are put before a piece up to the width, and nothing is cut.
abbrev pub blanks_for : ℕ → List ℕ → List ℕ
blanks_for w bytes = replicate (w - length bytes) 32

abbrev pub padded : ℤ → List ℕ → Result (List ℕ) RunFault
padded w bytes = if is_width w then Ok (blanks_for (unsigned_abs w) bytes ++ bytes) else Err Width

-- a piece, which may have a width
abbrev pub piece : Option ℤ → List ℕ → Result (List ℕ) RunFault
piece None bytes = Ok bytes
piece (Some w) bytes = padded w bytes

-- how many blanks a piece of this length has before it
abbrev pub margin : Option ℤ → ℕ → Result ℕ RunFault
margin None n = Ok 0
margin (Some w) n = if is_width w then Ok (unsigned_abs w - n) else Err Width
