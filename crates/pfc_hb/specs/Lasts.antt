-- The last events with an object.
use Rattle.std.specs.Prelude.{◌≡◌, ℕ, Bool, Option, Some, List, MatchOption, if◌then◌else◌}
use Rattle.std.specs.Map.{lookup}
use Rattle.pfc_hb.specs.declared.events.Event.{Event}
use Rattle.pfc_hb.specs.declared.objects.Thing.{Thing}
use Rattle.pfc_hb.specs.Order.{is_same_thing}
use Rattle.pfc_hb.specs.Clocks.{IsLastWith, NoneWith}

-- the place that is kept for an object
abbrev pub last_place : List (Thing × ℕ) → Thing → Option ℕ
last_place places thing = lookup (is_same_thing thing) places

-- the place is kept for the objects that pass a test, and for no other
abbrev pub PutsIn : (Thing → Bool) → ℕ → List (Thing × ℕ) → List (Thing × ℕ) → Type 0
PutsIn test place before after = (other : Thing) → last_place after other ≡ (if test other then Some place else last_place before other)

-- for each object the last event with it that stands below a bound
abbrev pub TellLasts : List Event → ℕ → List (Thing × ℕ) → Type 0
TellLasts events bound places = (thing : Thing) → MatchOption (last_place places thing) (NoneWith events thing 0 bound) (IsLastWith events thing bound)
