-- Conflicts of accesses, and the pairs of events that conflict and that nothing orders.
use Rattle.std.specs.Prelude.{◌≡◌, ℕ, zero, suc, ◌+◌, ◌-◌, ◌<◌, ◌≤◌, Bool, true, not, ◌&&◌, ◌||◌, ◌==◌, if◌then◌else◌, nat_lt, ◌⊎◌, ◌↔◌, ℤ, List, [], ◌∷◌, ◌++◌}
use Rattle.std.specs.Prelude.{length, Contains, AllPairs}
use Rattle.std.specs.List.{list_any, starts_with}
use Rattle.std.specs.Ordering.{int_eq}
use Rattle.pfc_hb.specs.declared.accesses.Access.{Access}
use Rattle.pfc_hb.specs.declared.accesses.Spot.{Spot}
use Rattle.pfc_hb.specs.declared.events.Event.{Event}
use Rattle.pfc_hb.specs.declared.events.Race.{Race}
use Rattle.pfc_hb.specs.Order.{event_at, has_same_process, Before, is_before}

-- ## Conflicts

abbrev pub has_same_variable : Spot → Spot → Bool
has_same_variable a b = (a.variable == b.variable) && (a.activation == b.activation)

-- one of two spots of one variable lies within the other, or both are the same
abbrev pub overlaps : List ℤ → List ℤ → Bool
overlaps path other = starts_with int_eq path other || starts_with int_eq other path

abbrev pub clashes : Access → Access → Bool
clashes a b = has_same_variable a.spot b.spot && (a.write || b.write) && overlaps a.spot.path b.spot.path

-- an access clashes with some access of an event
abbrev pub clashes_with : Event → Access → Bool
clashes_with b x = list_any (λ y. clashes x y) b.accesses

abbrev pub have_clash : Event → Event → Bool
have_clash a b = list_any (λ x. clashes_with b x) a.accesses

-- Two events conflict where their processes differ and they have accesses of one variable of one activation, at least one of
-- them a write, and the path of one is a prefix of the path of the other.
abbrev pub conflicts : Event → Event → Bool
conflicts a b = have_clash a b && not (has_same_process a b)

-- whether a write of the first event takes part in its conflict with the second
abbrev pub writes_against : Event → Event → Bool
writes_against a b = list_any (λ x. x.write && clashes_with b x) a.accesses

-- ## Races

-- Races count events from 1. The first of two conflicting events is not before the second; as the second is the later
-- one, it is never before the first.
pub record IsRace (events : List Event) (race : Race) : Type 0 where
  pub counted : 1 ≤ race.first
  pub ordered : race.first < race.second
  pub happened : race.second ≤ length events
  pub conflict : conflicts (event_at events (race.first - 1)) (event_at events (race.second - 1)) ≡ true
  pub unordered : Before events (race.first - 1) (race.second - 1) → ⊥

-- in order by first, and then by second
abbrev pub Precedes : Race → Race → Type 0
Precedes r s = (r.first < s.first) ⊎ ((r.first ≡ s.first) × (r.second < s.second))

-- the list of all races of these events, each once, in order
pub record AreRaces (events : List Event) (races : List Race) : Type 0 where
  pub exact : (race : Race) → Contains races race ↔ IsRace events race
  pub sorted : AllPairs Precedes races

-- ## Races, computed

abbrev pub is_race : List Event → ℕ → ℕ → Bool
is_race events i j = conflicts (event_at events i) (event_at events j) && not (is_before events i j)

abbrev pub race_at : ℕ → ℕ → Race
race_at i j = record { first = i + 1; second = j + 1 }

-- the races of the event at a place with the events behind it that stand below a bound
abbrev pub races_with : List Event → ℕ → ℕ → List Race
races_with events i zero = []
races_with events i (suc j) = races_with events i j ++ (if nat_lt i j && is_race events i j then race_at i j ∷ [] else [])

-- the races whose first event stands below a bound
abbrev pub races_below : List Event → ℕ → List Race
races_below events zero = []
races_below events (suc i) = races_below events i ++ races_with events i (length events)

abbrev pub races_of : List Event → List Race
races_of events = races_below events (length events)
