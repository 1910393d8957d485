-- What the code keeps, as the definitions see it.
use Rattle.std.specs.Prelude.{pos, ◌+◌, ◌≤◌, List, [], ◌∷◌, ◌++◌, map, reverse, Option, Some, None}
use Rattle.std.specs.Vec.{vec_len, vec_capacity}
use Rattle.std.specs.declared.alloc.Global.{Global}
use Rattle.std.specs.declared.vec.Vec.{Vec}
use Rattle.pfc_semantics.specs.Values.{Selector, Location, Value, ordinal, compound, points, values_from}
use Rattle.pfc_semantics.specs.Store.{Room, Store}
use Rattle.pfc_semantics.specs.Displays.{Spot, TypedSpot}
use Rattle.pfc_store.specs.declared.values.Selector.{Selector as HeldSelector}
use Rattle.pfc_store.specs.declared.values.Location.{Location as HeldLocation}
use Rattle.pfc_store.specs.declared.values.Value.{Value as HeldValue, Value-F, fold-Value}
use Rattle.pfc_store.specs.declared.values.Value.TheOpen as layer
use Rattle.pfc_store.specs.declared.spots.Spot.{Spot as HeldSpot}
use Rattle.pfc_store.specs.declared.spots.TypedSpot.{TypedSpot as HeldTypedSpot}
use Rattle.pfc_store.specs.declared.room.Room.{Room as HeldRoom}
use Rattle.pfc_store.specs.declared.rooms.Store.{Store as HeldStore}

-- ## Places

abbrev pub selector_view : HeldSelector → Selector
selector_view s = record { place = s.place; index = s.index }

abbrev pub selectors_view : List HeldSelector → List Selector
selectors_view selectors = map selector_view selectors

abbrev pub location_view : HeldLocation → Location
location_view l = record { activation = l.activation; variable = l.variable; selectors = selectors_view l.selectors.items }

abbrev pub spot_view : HeldSpot → Spot
spot_view s = record { scope = s.scope; variable = s.variable; selectors = selectors_view s.selectors.items }

abbrev pub typed_spot_view : HeldTypedSpot → TypedSpot
typed_spot_view s = record { spot = spot_view s.spot; t = s.t }

-- it has room for one step more
abbrev pub HasRoom : HeldSpot → Type 0
HasRoom s = vec_len s.selectors + 1 ≤ vec_capacity s.selectors

-- ## Values

abbrev pub value_step : Value-F Value → Value
value_step (layer.Ordinal n) = ordinal n
value_step (layer.Compound vs) = compound (values_from vs.items)
value_step (layer.Points l) = points (location_view l)

abbrev pub value_view : HeldValue → Value
value_view = fold-Value Value value_step

abbrev pub values_view : List HeldValue → List Value
values_view vs = map value_view vs

-- a part of a value; where there is none it counts as ordinal 0
abbrev pub part_view : Option HeldValue → Value
part_view None = ordinal (pos 0)
part_view (Some v) = value_view v

-- ## The store

abbrev pub room_view : HeldRoom → Room
room_view r = record { activation = r.activation; values = values_view r.values.items }

-- the latest first
abbrev pub rooms_view : List HeldRoom → Store
rooms_view rooms = reverse (map room_view rooms)

abbrev pub main_view : Option (Vec HeldValue Global) → Store
main_view None = []
main_view (Some values) = record { activation = 0; values = values_view values.items } ∷ []

abbrev pub store_view : HeldStore → Store
store_view s = rooms_view s.rooms.items ++ main_view s.main
