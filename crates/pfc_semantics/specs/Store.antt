-- The store: the values of the variables of each living activation.
--
-- It knows no cells and no addresses. Main's activation has the number 0. Any other has the number, from 1, of the action that made
-- it, so no number is ever used twice. An activation that has ended has no variables any more.
use Rattle.std.specs.Prelude.{ℕ, pos, ◌==◌, if◌then◌else◌, List, [], ◌∷◌, ◌++◌, get_or, set}
use Rattle.pfc_semantics.specs.Values.{Selector, Location, Value, ordinal, part, with_part, path_of}

-- the variables of one activation, in the order of its block's layout
pub record Room : Type 0 where
  pub activation : ℕ
  pub values : List Value

-- the rooms of all living activations, the latest first
abbrev pub Store : Type 0
Store = List Room

abbrev pub values_in : Store → ℕ → List Value
values_in [] a = []
values_in (room ∷ store) a = if room.activation == a then room.values else values_in store a

-- what a variable holds, whole
abbrev pub variable : Store → Location → Value
variable store l = get_or (values_in store l.activation) l.variable (ordinal (pos 0))

-- the value at a location
abbrev pub value_at : Store → Location → Value
value_at store l = part (path_of l.selectors) (variable store l)

-- the store in which an activation has other values
abbrev pub with_values : Store → ℕ → List Value → Store
with_values [] a values = []
with_values (room ∷ store) a values =
    if room.activation == a then record room { values = values } ∷ store else room ∷ with_values store a values

-- the store with another value at a location
abbrev pub stored : Store → Location → Value → Store
stored store l v =
    let values = values_in store l.activation in
    with_values store l.activation (set values l.variable (with_part (path_of l.selectors) (variable store l) v))

-- the store with a new activation
abbrev pub with_room : Store → ℕ → List Value → Store
with_room store a values = record { activation = a; values = values } ∷ store

-- the store without an activation, which has ended
abbrev pub without : Store → ℕ → Store
without [] a = []
without (room ∷ store) a = if room.activation == a then store else room ∷ without store a

-- the part behind some steps of what lies at a location
abbrev pub inside : Location → List Selector → Location
inside l selectors = record l { selectors = l.selectors ++ selectors }
