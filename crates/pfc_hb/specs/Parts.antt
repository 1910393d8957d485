-- The parts of variables that the events of a run access, by numbers.
use Rattle.std.specs.Prelude.{◌≡◌, ℕ, ◌<◌, Bool, true, ◌&&◌, ◌==◌, ◌↔◌, Option, Some, List, length, take, position, All, Contains}
use Rattle.std.specs.List.{list_any, starts_with}
use Rattle.std.specs.Ordering.{int_eq}
use Rattle.std.specs.Cmp.Lexicographic.{pointwise}
use Rattle.pfc_hb.specs.declared.accesses.Access.{Access}
use Rattle.pfc_hb.specs.declared.accesses.Spot.{Spot}
use Rattle.pfc_hb.specs.declared.events.Event.{Event}
use Rattle.pfc_hb.specs.declared.parts.Part.{Part}
use Rattle.pfc_hb.specs.Order.{event_at}
use Rattle.pfc_hb.specs.Conflicts.{has_same_variable}

-- the part is what lies at the spot
abbrev pub is_at : Spot → Part → Bool
is_at s p = (s.activation == p.activation) && (s.variable == p.variable) && pointwise int_eq s.path p.path.now

-- the number of what lies at a spot, if it is among the parts
abbrev pub number_of : List Part → Spot → Option ℕ
number_of parts s = position (is_at s) parts

abbrev pub is_known : List Part → Spot → Bool
is_known parts s = list_any (is_at s) parts

-- what was among the parts still is
abbrev pub KeepsKnown : List Part → List Part → Type 0
KeepsKnown before after = (s : Spot) → is_known before s ≡ true → is_known after s ≡ true

abbrev pub AllAreKnown : List Access → List Part → Type 0
AllAreKnown accesses parts = All (λ a. is_known parts a.spot ≡ true) accesses

-- all that these events access is among the parts
abbrev pub KnowsAll : List Event → List Part → Type 0
KnowsAll events parts = (j : ℕ) → j < length events → AllAreKnown (event_at events j).accesses parts

-- where so many of the steps to a spot lead
abbrev pub front : ℕ → Spot → Spot
front depth s = record { activation = s.activation; variable = s.variable; path = take depth s.path }

-- both are the same spot
abbrev pub is_same_spot : Spot → Spot → Bool
is_same_spot a b = has_same_variable a b && pointwise int_eq a.path b.path

-- what lies at the first spot is what lies at the second, or a part of it
abbrev pub lies_in : Spot → Spot → Bool
lies_in inner outer = has_same_variable inner outer && starts_with int_eq inner.path outer.path

abbrev pub holds : Spot → Spot → Bool
holds outer inner = lies_in inner outer

-- the number is that of a part within which the spot lies
abbrev pub IsAround : List Part → Spot → ℕ → Type 0
IsAround parts inner n = (outer : Spot) × (number_of parts outer ≡ Some n) × (lies_in inner outer ≡ true)

-- the numbers of all parts within which the spot lies
abbrev pub AreAround : List Part → Spot → List ℕ → Type 0
AreAround parts inner numbers = (n : ℕ) → Contains numbers n ↔ IsAround parts inner n
