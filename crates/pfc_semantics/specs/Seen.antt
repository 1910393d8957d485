-- Values as the code holds them. A step of theirs is the ordinal of an index alone.
use Rattle.std.specs.Prelude.{ℕ, ℤ, List, [], ◌∷◌, map}
use Rattle.pfc_semantics.specs.declared.values.Value.{Value as Held, Value-F, fold-Value}
use Rattle.pfc_semantics.specs.declared.values.Value.TheOpen as layer
use Rattle.pfc_semantics.specs.declared.values.Location.{Location as HeldLocation}
use Rattle.pfc_semantics.specs.Values.{Location, Value, Values, ordinal, compound, points, no_values, more_values}

pub record SeenLocation : Type 0 where
  pub activation : ℕ
  pub variable : ℕ
  pub selectors : List ℤ

mutual
  pub data SeenValue : Type 0 where
    number : ℤ → SeenValue
    list : SeenValues → SeenValue
    at : SeenLocation → SeenValue

  pub data SeenValues : Type 0 where
    no_seen : SeenValues
    more_seen : SeenValue → SeenValues → SeenValues

-- ## A value of the definitions, seen so

abbrev pub seen_location : Location → SeenLocation
seen_location l = record { activation = l.activation; variable = l.variable; selectors = map (λ s. s.index) l.selectors }

abbrev mutual
  pub seen : Value → SeenValue
  seen (ordinal n) = number n
  seen (compound vs) = list (seen_parts vs)
  seen (points l) = at (seen_location l)

  pub seen_parts : Values → SeenValues
  seen_parts no_values = no_seen
  seen_parts (more_values v vs) = more_seen (seen v) (seen_parts vs)

-- ## A value of the code

abbrev pub list_seen : List SeenValue → SeenValues
list_seen [] = no_seen
list_seen (v ∷ vs) = more_seen v (list_seen vs)

abbrev pub location_view : HeldLocation → SeenLocation
location_view l = record { activation = l.activation; variable = l.variable; selectors = l.selectors.items }

abbrev pub value_step : Value-F SeenValue → SeenValue
value_step (layer.Number n) = number n
value_step (layer.List vs) = list (list_seen vs.items)
value_step (layer.At l) = at (location_view l)

abbrev pub value_view : Held → SeenValue
value_view = fold-Value SeenValue value_step

abbrev pub part_views : List Held → SeenValues
part_views vs = list_seen (map value_view vs)
