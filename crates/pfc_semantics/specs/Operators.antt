-- What operators and functions give of numbers, or the fault that they end in.
use Rattle.std.specs.Prelude.{ℤ, Bool, [], ◌∷◌, get_or, not, Option, Some, None, Ok, int_lt, int_le}
use Rattle.std.specs.Ordering.{int_eq}
use Rattle.pfc_base.specs.declared.places.Place.{Place}
use Rattle.pfc_tree.specs.declared.tree.Sign.{Sign}
use Rattle.pfc_tree.specs.declared.tree.Sign.TheVariants.{Plus, Minus}
use Rattle.pfc_tree.specs.declared.tree.Relation.{Relation}
use Rattle.pfc_tree.specs.declared.tree.Relation.TheVariants.{Eq, Ne, Lt, Le, Gt, Ge}
use Rattle.pfc_tree.specs.declared.tree.AddOp.{AddOp}
use Rattle.pfc_tree.specs.declared.tree.AddOp.TheVariants.{Add, Sub, Or}
use Rattle.pfc_tree.specs.declared.tree.MulOp.{MulOp}
use Rattle.pfc_tree.specs.declared.tree.MulOp.TheVariants.{Mul, Div, Mod, And}
use Rattle.pfc_types.specs.declared.types.TypeId.{TypeId}
use Rattle.pfc_values.specs.Numbers.{Outcome, negative_of, sum_of, difference_of, product_of, quotient_of, remainder_of, magnitude_of, square_of, truth}
use Rattle.pfc_values.specs.Numbers.{both_of, either_of, is_odd, char_of, next_of, before_of}
use Rattle.pfc_values.specs.declared.simple.Simple.{Simple}
use Rattle.pfc_values.specs.declared.simple.Simple.TheVariants.{Integer, Boolean, Char}
use Rattle.pfc_semantics.specs.Predeclared.{Function, abs, sqr, odd, ord, chr, succ, pred, eof, eoln, empty, clock, random, no_function}

-- the simple type that a predeclared type is
abbrev pub simple_of : Option TypeId → Simple
simple_of None = Integer
simple_of (Some t) = get_or (Integer ∷ Boolean ∷ []) t.place Char

-- ## Operators

-- a sign: `-` is fault 1 for the least integer
abbrev pub signed : Option (Sign × Place) → ℤ → Outcome
signed None n = Ok n
signed (Some (Plus, p)) n = Ok n
signed (Some (Minus, p)) n = negative_of n

-- `+` and `-` are fault 1 where the result does not fit
abbrev pub added : AddOp → ℤ → ℤ → Outcome
added Add a b = sum_of a b
added Sub a b = difference_of a b
added Or a b = Ok (either_of a b)

-- `*` and `div` are fault 1 where the result does not fit, `div` and `mod` fault 2 where the right operand is 0
abbrev pub multiplied : MulOp → ℤ → ℤ → Outcome
multiplied Mul a b = product_of a b
multiplied Div a b = quotient_of a b
multiplied Mod a b = remainder_of a b
multiplied And a b = Ok (both_of a b)

abbrev pub holds : Relation → ℤ → ℤ → Bool
holds Eq a b = int_eq a b
holds Ne a b = not (int_eq a b)
holds Lt a b = int_lt a b
holds Le a b = int_le a b
holds Gt a b = int_lt b a
holds Ge a b = int_le b a

abbrev pub compared : Relation → ℤ → ℤ → ℤ
compared r a b = truth (holds r a b)

-- ## Functions

-- what a function gives of an argument of type t; `eof`, `eoln`, `empty`, `clock` and `random` are actions and not evaluated so
abbrev pub applied : Function → Simple → ℤ → Outcome
applied abs t n = magnitude_of n
applied sqr t n = square_of n
applied odd t n = Ok (is_odd n)
applied ord t n = Ok n
applied chr t n = char_of n
applied succ t n = next_of t n
applied pred t n = before_of t n
applied eof t n = Ok n
applied eoln t n = Ok n
applied empty t n = Ok n
applied clock t n = Ok n
applied random t n = Ok n
applied no_function t n = Ok n
