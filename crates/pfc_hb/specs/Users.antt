-- Users: which events access a part of a variable.
use Rattle.std.specs.Prelude.{◌≡◌, ℕ, ◌<◌, Bool, false, ◌&&◌, ◌||◌, ◌==◌, if◌then◌else◌, Some, List, [], length, replicate, slice_index_or}
use Rattle.std.specs.List.{list_any}
use Rattle.pfc_hb.specs.declared.accesses.Access.{Access}
use Rattle.pfc_hb.specs.declared.accesses.Spot.{Spot}
use Rattle.pfc_hb.specs.declared.events.Event.{Event}
use Rattle.pfc_hb.specs.declared.parts.Part.{Part}
use Rattle.pfc_hb.specs.declared.users.Users.{Users}
use Rattle.pfc_hb.specs.Order.{event_at}
use Rattle.pfc_hb.specs.Parts.{number_of}

-- none of so many events
abbrev pub no_users : ℕ → Users
no_users events = record { all = replicate events false; writers = replicate events false }

-- the users of the part of a number
abbrev pub users_at : List Users → ℕ → Users
users_at users n = slice_index_or users n (record { all = []; writers = [] })

-- the users with which an access clashes: all of them with a write, and those that write with a read
abbrev pub marks_against : Bool → Users → List Bool
marks_against write users = if write then users.all else users.writers

abbrev pub is_user : Users → Bool → ℕ → Bool
is_user users write event = slice_index_or (marks_against write users) event false

abbrev pub has_number : List ℕ → ℕ → Bool
has_number numbers n = list_any (λ m. m == n) numbers

-- so many parts, and of each an answer for so many events
pub record AreSized (parts events : ℕ) (users : List Users) : Type 0 where
  pub each : length users ≡ parts
  pub all : (n : ℕ) → n < parts → length (users_at users n).all ≡ events
  pub writers : (n : ℕ) → n < parts → length (users_at users n).writers ≡ events

-- the event has a place
pub record HaveRoomFor (event : ℕ) (users : List Users) : Type 0 where
  pub all : (n : ℕ) → n < length users → event < length (users_at users n).all
  pub writers : (n : ℕ) → n < length users → event < length (users_at users n).writers

-- of each part there are answers for so many events
pub record HaveWidth (events : ℕ) (users : List Users) : Type 0 where
  pub all : (n : ℕ) → n < length users → length (users_at users n).all ≡ events
  pub writers : (n : ℕ) → n < length users → length (users_at users n).writers ≡ events

pub record SameSizes (before after : List Users) : Type 0 where
  pub each : length after ≡ length before
  pub all : (n : ℕ) → length (users_at after n).all ≡ length (users_at before n).all
  pub writers : (n : ℕ) → length (users_at after n).writers ≡ length (users_at before n).writers

-- an event is a user, too, of each part of a number among these
abbrev pub AddsNumbers : List ℕ → ℕ → Bool → List Users → List Users → Type 0
AddsNumbers numbers event write before after = (n : ℕ) (w : Bool) (i : ℕ) → n < length before
    → is_user (users_at after n) w i ≡ (is_user (users_at before n) w i || ((i == event) && (w || write) && has_number numbers n))

-- an event is a user, too, of each part whose spot passes a test
abbrev pub Adds : List Part → (Spot → Bool) → ℕ → Bool → List Users → List Users → Type 0
Adds parts test event write before after = (s : Spot) (n : ℕ) (w : Bool) (i : ℕ) → number_of parts s ≡ Some n
    → is_user (users_at after n) w i ≡ (is_user (users_at before n) w i || ((i == event) && (w || write) && test s))

-- some of the accesses is of a spot that passes a test beside another, and is a write, or may be a read
abbrev pub some_use : (Spot → Spot → Bool) → Bool → Spot → List Access → Bool
some_use test read s accesses = list_any (λ a. (read || a.write) && test a.spot s) accesses

-- an event is a user, too, of each part that passes a test beside what one of these accesses is of
abbrev pub AddsAll : List Part → (Spot → Spot → Bool) → ℕ → List Access → List Users → List Users → Type 0
AddsAll parts test event accesses before after = (s : Spot) (n : ℕ) (w : Bool) (i : ℕ) → number_of parts s ≡ Some n
    → is_user (users_at after n) w i ≡ (is_user (users_at before n) w i || ((i == event) && some_use test w s accesses))

-- of each part which events have an access that passes a test beside its spot
pub record TellUsers (events : List Event) (parts : List Part) (test : Spot → Spot → Bool) (users : List Users) : Type 0 where
  pub sized : AreSized (length parts) (length events) users
  pub told : (s : Spot) (n : ℕ) (w : Bool) (i : ℕ) → number_of parts s ≡ Some n → i < length events
      → is_user (users_at users n) w i ≡ some_use test w s (event_at events i).accesses
