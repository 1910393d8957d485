-- The order of the events of one run. Events have places, counted from 0 here.
use Rattle.std.specs.Prelude.{◌≡◌, ℕ, zero, suc, ◌+◌, ◌<◌, Bool, true, false, not, ◌&&◌, ◌||◌, ◌==◌, List, [], ◌∷◌, ◌++◌, length, take, drop, slice_index_or}
use Rattle.std.specs.List.{list_any}
use Rattle.pfc_hb.specs.declared.events.Event.{Event}
use Rattle.pfc_hb.specs.declared.objects.Thing.{Thing}
use Rattle.pfc_hb.specs.declared.objects.Thing.TheVariants.{Semaphore, Channel, Monitor, Resource, Owner}

-- stands for the event at a place where there is none
abbrev pub no_event : Event
no_event = record { process = 0; line = 0; joins = false; wakes = []; things = []; accesses = [] }

abbrev pub event_at : List Event → ℕ → Event
event_at events i = slice_index_or events i no_event

-- ## What orders two events directly

abbrev pub is_same_thing : Thing → Thing → Bool
is_same_thing (Semaphore a) (Semaphore b) = a == b
is_same_thing (Channel a) (Channel b) = a == b
is_same_thing (Monitor a) (Monitor b) = a == b
is_same_thing (Resource a) (Resource b) = a == b
is_same_thing (Owner a) (Owner b) = a == b
is_same_thing a b = false

abbrev pub has_same_process : Event → Event → Bool
has_same_process a b = a.process == b.process

abbrev pub wakes_process_of : Event → Event → Bool
wakes_process_of a b = list_any (λ q. q == b.process) a.wakes

abbrev pub shares_thing : Event → Event → Bool
shares_thing a b = list_any (λ t. list_any (is_same_thing t) b.things) a.things

-- whether the process of an event acts in the events strictly between two places
abbrev pub acts_between : List Event → Event → ℕ → ℕ → Bool
acts_between events b i j = list_any (λ e. has_same_process e b) (drop (i + 1) (take j events))

-- An event is a direct cause of a later one where both have the same process, where the later one is the next event of a
-- process that the earlier one wakes, where both have a common object, or where the later one joins.
abbrev pub is_cause : List Event → ℕ → ℕ → Bool
is_cause events i j =
    has_same_process (event_at events i) (event_at events j)
    || (wakes_process_of (event_at events i) (event_at events j) && not (acts_between events (event_at events j) i j))
    || shares_thing (event_at events i) (event_at events j)
    || (event_at events j).joins

-- ## The order

-- the least transitive relation in which a direct cause is before what it causes
pub data Before (events : List Event) : ℕ → ℕ → Type 0 where
  direct : {i j : ℕ} → i < j → j < length events → is_cause events i j ≡ true → Before events i j
  through : {i j k : ℕ} → Before events i j → Before events j k → Before events i k

-- ## The order, computed

-- some of these events is a direct cause of that one
abbrev pub some_cause : List Event → List ℕ → ℕ → Bool
some_cause events places j = list_any (λ k. is_cause events k j) places

abbrev pub with_place : List ℕ → ℕ → Bool → List ℕ
with_place places j true = places ++ j ∷ []
with_place places j false = places

-- those places, and this one too where it is that of the event itself or one of them is a direct cause of it
abbrev pub extended : List Event → ℕ → ℕ → List ℕ → List ℕ
extended events i j places = with_place places j ((i == j) || some_cause events places j)

-- the places below a bound of an event and of those that it is before
abbrev pub reached : List Event → ℕ → ℕ → List ℕ
reached events i zero = []
reached events i (suc j) = extended events i j (reached events i j)

-- whether an event is before another: it, or an event that it is before, is a direct cause of the other
abbrev pub is_before : List Event → ℕ → ℕ → Bool
is_before events i j = some_cause events (reached events i j) j
