-- The values of a `for`: a value that is not past the last is before it or is the last, and the value behind one before the last is not past it.
use Rattle.std.proofs.Common.{◌≡◌, ℤ, pos, ◌+ℤ◌, ◌-ℤ◌, Bool, true, false, not, refl, arith}
use Rattle.std.specs.Prelude.{int_lt}
use Rattle.std.specs.Ordering.{int_eq}
use Rattle.std.proofs.lemmas.Int.{ints}
use Rattle.pfc_semantics.specs.Statements.{is_past, next_kept}
use Rattle.pfc_stacks.specs.Effects.{is_past as is_past_by, is_before, value_behind}
use Rattle.pfc_standing_code.specs.Performs.{direction}

pub past_alike : (down : Bool) (a b : ℤ) → is_past_by (direction down) a b ≡ is_past down a b
past_alike true a b = refl
past_alike false a b = refl

pub next_alike : (down : Bool) (n : ℤ) → value_behind (direction down) n ≡ next_kept down n
next_alike true n = refl
next_alike false n = refl

below_or_last : (a b : ℤ) → int_lt b a ≡ false → int_lt a b ≡ not (int_eq a b)
below_or_last a b h = grind (arith, ints)

above_or_last : (a b : ℤ) → int_lt a b ≡ false → int_lt b a ≡ not (int_eq a b)
above_or_last a b h = grind (arith, ints)

step_up : (a b : ℤ) → int_lt a b ≡ true → int_lt b (a +ℤ pos 1) ≡ false
step_up a b h = grind (arith, ints)

step_down : (a b : ℤ) → int_lt b a ≡ true → int_lt (a -ℤ pos 1) b ≡ false
step_down a b h = grind (arith, ints)

pub before_or_last : (down : Bool) (a b : ℤ) → is_past down a b ≡ false → is_before (direction down) a b ≡ not (int_eq a b)
before_or_last true a b h = above_or_last a b h
before_or_last false a b h = below_or_last a b h

pub next_is_within : (down : Bool) (a b : ℤ) → is_before (direction down) a b ≡ true → is_past down (next_kept down a) b ≡ false
next_is_within true a b h = step_down a b h
next_is_within false a b h = step_up a b h

-- whether two numbers are the same does not hang on their order
pub same_turned : (a b : ℤ) → int_eq a b ≡ int_eq b a
same_turned a b = grind (arith, ints)
