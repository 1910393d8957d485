-- Broken rules, and the first of them.
use Rattle.std.specs.Prelude.{◌≡◌, ℕ, ◌<◌, ◌≤◌, Bool, false, ◌&&◌, ◌||◌, ◌==◌, nat_lt, nat_le, if◌then◌else◌, List, [], ◌∷◌, ◌++◌, Contains, Option, Some, None}
use Rattle.std.specs.Prelude.{MatchOption}
use Rattle.pfc_base.specs.declared.places.Place.{Place}
use Rattle.pfc_base.specs.declared.faults.Refusal.{Refusal}

infixr 60 ◌⨾◌
-- the rules that are broken in some part of a tree
pub data Faults : Type 0 where
  -- none
  none : Faults
  -- one rule, at one place
  one : Refusal → Faults
  -- those of one part, and those of another
  ◌⨾◌ : Faults → Faults → Faults

-- a rule is broken at a place, unless this holds
abbrev pub unless : Bool → Place → ℕ → Faults
unless holds p code = if holds then none else one (record { code = code; place = p })

-- the list of them
abbrev pub listed : Faults → List Refusal
listed none = []
listed (one f) = f ∷ []
listed (fs ⨾ gs) = listed fs ++ listed gs

-- all of a list
abbrev pub all_of : List Refusal → Faults
all_of [] = none
all_of (f ∷ fs) = one f ⨾ all_of fs

-- An earlier place comes first, and at one place a lower code.
abbrev pub is_before : Refusal → Refusal → Bool
is_before f g =
    nat_lt f.place.line g.place.line
    || (f.place.line == g.place.line
    && (nat_lt f.place.column g.place.column || (f.place.column == g.place.column && nat_lt f.code g.code)))

abbrev pub lesser : Refusal → Option Refusal → Option Refusal
lesser f None = Some f
lesser f (Some best) = if is_before f best then Some f else Some best

-- the first of what was found before and of the broken rules whose codes are not below `from`
abbrev pub least_from : ℕ → Option Refusal → Faults → Option Refusal
least_from from best none = best
least_from from best (one f) = if nat_le from f.code then lesser f best else best
least_from from best (fs ⨾ gs) = least_from from (least_from from best fs) gs

-- f is the first of these refusals whose codes are not below `from`
pub record IsFirst (from : ℕ) (fs : List Refusal) (f : Refusal) : Type 0 where
  pub among : Contains fs f
  pub asked : from ≤ f.code
  pub first : (g : Refusal) → Contains fs g → from ≤ g.code → is_before g f ≡ false

-- the first, or None where there is none
abbrev pub IsFirstOf : ℕ → List Refusal → Option Refusal → Type 0
IsFirstOf from fs r = MatchOption r ((g : Refusal) → Contains fs g → g.code < from) (λ f. IsFirst from fs f)
