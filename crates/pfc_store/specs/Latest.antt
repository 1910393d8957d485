-- The latest room of an activation.
use Rattle.std.specs.Prelude.{◌≡◌, ℕ, ◌+◌, ◌<◌, ◌==◌, false, List, [], ◌∷◌, length, get_or, drop}
use Rattle.pfc_semantics.specs.Store.{Store}
use Rattle.pfc_store.specs.declared.room.Room.{Room as HeldRoom}
use Rattle.pfc_store.specs.Views.{rooms_view}

-- none of these rooms is that of the activation
abbrev pub NoneOf : ℕ → Store → Type 0
NoneOf a [] = Unit {0}
NoneOf a (room ∷ store) = ((room.activation == a) ≡ false) × NoneOf a store

-- the room in a place is that of the activation, and none behind it is
pub record IsLatest (rooms : List HeldRoom) (a i : ℕ) : Type 0 where
  pub within : i < length rooms
  pub is : (d : HeldRoom) → (get_or rooms i d).activation ≡ a
  pub behind : NoneOf a (rooms_view (drop (i + 1) rooms))
