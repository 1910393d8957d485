-- How the order is kept. Each event has a clock, with one count for each process: how many events of the run, from its first
-- on, end with the latest event of that process that is before this event or is it. So an event is before another exactly
-- where the other's clock counts past it.
use Rattle.std.specs.Prelude.{◌≡◌, ℕ, ◌+◌, ◌<◌, ◌≤◌, Bool, true, false, ◌||◌, nat_lt, List, [], length, map, slice_index, slice_index_or}
use Rattle.std.specs.List.{list_any}
use Rattle.pfc_hb.specs.declared.events.Event.{Event}
use Rattle.pfc_hb.specs.declared.objects.Thing.{Thing}
use Rattle.pfc_hb.specs.Order.{event_at, is_same_thing, has_same_process, wakes_process_of, shares_thing, Before, is_before}

-- an event is of the process of a later one, or wakes it
abbrev pub reaches : Event → Event → Bool
reaches a b = has_same_process a b || wakes_process_of a b

-- An event leads to a later one: as a direct cause does, but an event that wakes a process leads to all later events of it.
abbrev pub leads : Event → Event → Bool
leads a b = reaches a b || shares_thing a b || b.joins

abbrev pub has_thing : Thing → Event → Bool
has_thing thing e = list_any (is_same_thing thing) e.things

-- no event between two places, of which the first counts, has the object
abbrev pub NoneWith : List Event → Thing → ℕ → ℕ → Type 0
NoneWith events thing from bound = (k : ℕ) → from ≤ k → k < bound → has_thing thing (event_at events k) ≡ false

-- the last event below a bound that has the object
pub record IsLastWith (events : List Event) (thing : Thing) (bound last : ℕ) : Type 0 where
  pub below : last < bound
  pub has : has_thing thing (event_at events last) ≡ true
  pub behind : NoneWith events thing (last + 1) bound

-- The count of a process has a slot in each clock, the same slot for all of its events; two processes never share one.
pub record AreSlots (events : List Event) (slots : List ℕ) (width : ℕ) : Type 0 where
  pub each : length slots ≡ length events
  pub within : (i : ℕ) → i < length events → slice_index slots i < width
  pub apart : (i j : ℕ) → i < length events → j < length events → slice_index slots i ≡ slice_index slots j →
      (event_at events i).process ≡ (event_at events j).process

-- the clock counts past the event at this place
abbrev pub Has : List ℕ → List ℕ → ℕ → Type 0
Has slots clock i = i < slice_index clock (slice_index slots i)

-- the clock of the event at a place
pub record IsClock (events : List Event) (slots : List ℕ) (width j : ℕ) (clock : List ℕ) : Type 0 where
  pub wide : length clock ≡ width
  pub low : (slot : ℕ) → slice_index clock slot ≤ j + 1
  pub own : Has slots clock j
  pub sound : (i : ℕ) → i < j → Has slots clock i → Before events i j
  pub complete : (i : ℕ) → Before events i j → Has slots clock i

-- the clocks of the events below a bound
abbrev pub AreClocks : List Event → List ℕ → ℕ → ℕ → List (List ℕ) → Type 0
AreClocks events slots width bound clocks = (j : ℕ) → j < bound → IsClock events slots width j (slice_index_or clocks j [])

-- what the clock of the event at j has while its causes are sought: events before it alone, and with each event those before that
pub record Gathers (events : List Event) (slots : List ℕ) (width j : ℕ) (clock : List ℕ) : Type 0 where
  pub wide : length clock ≡ width
  pub low : (slot : ℕ) → slice_index clock slot ≤ j
  pub sound : (k : ℕ) → Has slots clock k → Before events k j
  pub closed : (m k : ℕ) → Has slots clock k → Before events m k → Has slots clock m

-- what a clock has, it has later on
abbrev pub Keeps : List ℕ → List ℕ → List ℕ → Type 0
Keeps slots before after = (k : ℕ) → Has slots before k → Has slots after k

-- the clock has every earlier event that passes a test beside the event at j
abbrev pub HasAll : List Event → List ℕ → (Event → Event → Bool) → ℕ → List ℕ → Type 0
HasAll events slots test j clock = (k : ℕ) → k < j → test (event_at events k) (event_at events j) ≡ true → Has slots clock k

-- for each of the slots of these clocks the counts that all of them have there
pub record AreColumns (clocks : List (List ℕ)) (width : ℕ) (columns : List (List ℕ)) : Type 0 where
  pub each : length columns ≡ width
  pub column : (slot : ℕ) → slot < width → slice_index_or columns slot [] ≡ map (λ clock. slice_index clock slot) clocks

-- The counts of the process of the event at i in the clocks of all events. A later event is behind it where the count stands past it.
pub record TellsBehind (events : List Event) (i : ℕ) (column : List ℕ) : Type 0 where
  pub wide : length column ≡ length events
  pub told : (j : ℕ) → i < j → j < length events → nat_lt i (slice_index column j) ≡ is_before events i j

-- slots and columns that tell the order of these events
pub record TellOrder (events : List Event) (slots : List ℕ) (columns : List (List ℕ)) : Type 0 where
  pub slotted : length slots ≡ length events
  pub within : (i : ℕ) → i < length events → slice_index slots i < length columns
  pub told : (i : ℕ) → i < length events → TellsBehind events i (slice_index_or columns (slice_index slots i) [])
