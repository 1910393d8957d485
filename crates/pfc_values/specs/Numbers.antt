-- The values of simple types, by their ordinals, and what operators and functions give of them.
use Rattle.std.specs.Prelude.{ℤ, pos, negsuc, neg_ℤ, ◌+ℤ◌, ◌-ℤ◌, ◌*ℤ◌, int_le, int_lt, int_div, int_rem, Bool, not, ◌&&◌, ◌||◌, if◌then◌else◌, Result, Ok, Err}
use Rattle.std.specs.Ordering.{int_eq}
use Rattle.pfc_base.specs.declared.faults.RunFault.{RunFault}
use Rattle.pfc_base.specs.declared.faults.RunFault.TheVariants.{Overflow, Division, Range}
use Rattle.pfc_values.specs.declared.simple.Simple.{Simple}
use Rattle.pfc_values.specs.declared.simple.Simple.TheVariants.{Integer, Boolean, Char}

-- a number, or the fault in which its evaluation ends
abbrev pub Outcome : Type 0
Outcome = Result ℤ RunFault

-- ## Types

-- the first and the last value of a simple type
abbrev pub least : Simple → ℤ
least Integer = negsuc 2147483647
least Boolean = pos 0
least Char = pos 0

abbrev pub greatest : Simple → ℤ
greatest Integer = pos 2147483647
greatest Boolean = pos 1
greatest Char = pos 255

-- the number is an ordinal of the type
abbrev pub is_of : Simple → ℤ → Bool
is_of t n = int_le (least t) n && int_le n (greatest t)

-- ## Integers

-- a number, or overflow where it does not fit in 32 bits
abbrev pub fitting : ℤ → Outcome
fitting n = if is_of Integer n then Ok n else Err Overflow

abbrev pub negative_of : ℤ → Outcome
negative_of a = fitting (neg_ℤ a)

abbrev pub sum_of : ℤ → ℤ → Outcome
sum_of a b = fitting (a +ℤ b)

abbrev pub difference_of : ℤ → ℤ → Outcome
difference_of a b = fitting (a -ℤ b)

abbrev pub product_of : ℤ → ℤ → Outcome
product_of a b = fitting (a *ℤ b)

-- `div` truncates toward zero, and `mod` is what is left: it has the sign of the left operand
abbrev pub quotient_of : ℤ → ℤ → Outcome
quotient_of a b = if int_eq b (pos 0) then Err Division else fitting (int_div a b)

abbrev pub remainder_of : ℤ → ℤ → Outcome
remainder_of a b = if int_eq b (pos 0) then Err Division else Ok (int_rem a b)

abbrev pub magnitude_of : ℤ → Outcome
magnitude_of a = fitting (if int_lt a (pos 0) then neg_ℤ a else a)

abbrev pub square_of : ℤ → Outcome
square_of a = fitting (a *ℤ a)

-- ## Truth values: 0 and 1, and every other ordinal counts as 1

abbrev pub truth : Bool → ℤ
truth b = if b then pos 1 else pos 0

abbrev pub is_true : ℤ → Bool
is_true n = not (int_eq n (pos 0))

abbrev pub inverse_of : ℤ → ℤ
inverse_of a = truth (not (is_true a))

abbrev pub both_of : ℤ → ℤ → ℤ
both_of a b = truth (is_true a && is_true b)

abbrev pub either_of : ℤ → ℤ → ℤ
either_of a b = truth (is_true a || is_true b)

abbrev pub is_odd : ℤ → ℤ
is_odd a = truth (is_true (int_rem a (pos 2)))

-- ## Chars and neighbours

-- the char with an ordinal
abbrev pub char_of : ℤ → Outcome
char_of n = if is_of Char n then Ok n else Err Range

-- the next value of a type: none behind its last
abbrev pub next_of : Simple → ℤ → Outcome
next_of t n = if int_lt n (greatest t) then Ok (n +ℤ pos 1) else Err Range

-- the value before: none before its first
abbrev pub before_of : Simple → ℤ → Outcome
before_of t n = if int_lt (least t) n then Ok (n -ℤ pos 1) else Err Range
