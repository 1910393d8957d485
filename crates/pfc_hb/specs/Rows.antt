-- Rows: with which events the accesses of one event clash.
use Rattle.std.specs.Prelude.{◌≡◌, ℕ, ◌<◌, ◌≤◌, Bool, false, ◌||◌, List, length, slice_index_or}
use Rattle.std.specs.List.{list_any}
use Rattle.pfc_hb.specs.declared.accesses.Access.{Access}
use Rattle.pfc_hb.specs.declared.events.Event.{Event}
use Rattle.pfc_hb.specs.declared.rows.Rows.{Rows}
use Rattle.pfc_hb.specs.declared.users.Users.{Users}
use Rattle.pfc_hb.specs.Order.{event_at}
use Rattle.pfc_hb.specs.Conflicts.{clashes_with, have_clash, is_race}
use Rattle.pfc_hb.specs.Parts.{KnowsAll, is_same_spot, lies_in}
use Rattle.pfc_hb.specs.Users.{TellUsers, is_user, users_at}

-- of each event behind the one at i, whether the accesses of both clash
pub record TellsClashes (events : List Event) (i : ℕ) (row : List Bool) : Type 0 where
  pub wide : length row ≡ length events
  pub told : (j : ℕ) → i < j → j < length events → slice_index_or row j false ≡ have_clash (event_at events i) (event_at events j)

-- of each event behind the one at i, whether the two are a race
pub record TellsRaces (events : List Event) (i : ℕ) (row : List Bool) : Type 0 where
  pub wide : length row ≡ length events
  pub told : (j : ℕ) → i < j → j < length events → slice_index_or row j false ≡ is_race events i j

-- beside what was marked before, the events from a place on with which an access clashes
abbrev pub AddsClashes : List Event → ℕ → Access → List Bool → List Bool → Type 0
AddsClashes events from access before after = (j : ℕ) → from ≤ j → j < length events
    → slice_index_or after j false ≡ (slice_index_or before j false || clashes_with (event_at events j) access)

-- beside what was marked before, the users of a part from a place on
abbrev pub AddsUsers : Users → Bool → ℕ → List Bool → List Bool → Type 0
AddsUsers users write from before after = (j : ℕ) → from ≤ j
    → slice_index_or after j false ≡ (slice_index_or before j false || is_user users write j)

-- the event is a user of a part of one of these numbers
abbrev pub is_some_user : List Users → List ℕ → Bool → ℕ → Bool
is_some_user users numbers write j = list_any (λ n. is_user (users_at users n) write j) numbers

-- beside what was marked before, the users of the parts of these numbers from a place on
abbrev pub AddsOthers : List Users → List ℕ → Bool → ℕ → List Bool → List Bool → Type 0
AddsOthers users numbers write from before after = (j : ℕ) → from ≤ j
    → slice_index_or after j false ≡ (slice_index_or before j false || is_some_user users numbers write j)

-- all parts are known, with their users
pub record AreRows (rows : Rows) : Type 0 where
  pub known : KnowsAll rows.events.now rows.parts.keys
  pub at : TellUsers rows.events.now rows.parts.keys is_same_spot rows.uses.at.items
  pub within : TellUsers rows.events.now rows.parts.keys lies_in rows.uses.within.items
