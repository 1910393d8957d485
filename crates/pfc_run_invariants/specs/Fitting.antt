-- Numbers that have 32 bits, and values that are made of such.
use Rattle.std.specs.Prelude.{ℕ, ℤ, ◌≡◌, true, List, Option, Some, Ok, Err}
use Rattle.std.specs.List.{AllByRecursion}
use Rattle.pfc_types.specs.Scopes.{Names, Level, look}
use Rattle.pfc_types.specs.declared.scope.Meaning.{Meaning}
use Rattle.pfc_types.specs.declared.scope.Meaning.TheVariants.{Constant}
use Rattle.pfc_values.specs.Numbers.{Outcome, is_of}
use Rattle.pfc_values.specs.declared.simple.Simple.TheVariants.{Integer}
use Rattle.pfc_semantics.specs.Values.{Value, Values, ordinal, compound, points, no_values, more_values}
use Rattle.pfc_semantics.specs.Store.{Store, Room}

-- the number has 32 bits
abbrev pub Fits : ℤ → Type 0
Fits n = is_of Integer n ≡ true

-- what an operator comes to: a number that fits, or a fault
abbrev pub FitsOutcome : Outcome → Type 0
FitsOutcome (Ok n) = Fits n
FitsOutcome (Err f) = Unit {0}

-- ## Values

abbrev mutual
  -- each part of a simple type and the number of each object; a reference holds no number
  pub FitsValue : Value → Type 0
  FitsValue (ordinal n) = Fits n
  FitsValue (compound vs) = FitValues vs
  FitsValue (points l) = Unit {0}

  pub FitValues : Values → Type 0
  FitValues no_values = Unit {0}
  FitValues (more_values v vs) = FitsValue v × FitValues vs

abbrev pub FitList : List Value → Type 0
FitList values = AllByRecursion FitsValue values

abbrev pub FitsRoom : Room → Type 0
FitsRoom room = FitList room.values

abbrev pub FitsStore : Store → Type 0
FitsStore store = AllByRecursion FitsRoom store

-- ## Names

-- what a name stands for, where it is a constant
abbrev pub FitsMeaning : Option Meaning → Type 0
FitsMeaning (Some (Constant t n)) = Fits n
FitsMeaning m = Unit {0}

-- whatever is in view, each constant
abbrev pub FitNames : List Names → Type 0
FitNames scopes = (view : List Level) (x : List ℕ) → FitsMeaning (look scopes view x)
