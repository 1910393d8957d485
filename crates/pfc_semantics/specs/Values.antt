-- Values, where they lie, and their parts.
use Rattle.std.specs.Prelude.{ℕ, zero, suc, ℤ, pos, List, [], ◌∷◌, map}

-- One step into a value: the place of a part, from 0, and the ordinal of the index that chose it. A field's ordinal is its place.
pub record Selector : Type 0 where
  pub place : ℕ
  pub index : ℤ

-- Where a value lies: an activation by its number, one of its variables by its place in the layout of the activation's block, and
-- the steps to a part of it, outermost first.
pub record Location : Type 0 where
  pub activation : ℕ
  pub variable : ℕ
  pub selectors : List Selector

mutual
  -- a value
  pub data Value : Type 0 where
    -- a value of a simple type, by its ordinal; an object, by its number
    ordinal : ℤ → Value
    -- an array by its elements, a record by its fields, in their order
    compound : Values → Value
    -- what a reference parameter holds: where its variable lies
    points : Location → Value

  -- values, one behind the other
  pub data Values : Type 0 where
    no_values : Values
    more_values : Value → Values → Values

-- the ordinal of a value of a simple type
abbrev pub ordinal_of : Value → ℤ
ordinal_of (ordinal n) = n
ordinal_of (compound vs) = pos 0
ordinal_of (points l) = pos 0

-- n times the same
abbrev pub copies : ℕ → Value → Values
copies zero v = no_values
copies (suc n) v = more_values v (copies n v)

-- the values of a list
abbrev pub values_from : List Value → Values
values_from [] = no_values
values_from (v ∷ vs) = more_values v (values_from vs)

-- ## Parts

-- the part at a place, from 0
abbrev pub part_at : Values → ℕ → Value
part_at no_values i = ordinal (pos 0)
part_at (more_values v vs) zero = v
part_at (more_values v vs) (suc i) = part_at vs i

abbrev pub with_part_at : Values → ℕ → Value → Values
with_part_at no_values i new = no_values
with_part_at (more_values v vs) zero new = more_values new vs
with_part_at (more_values v vs) (suc i) new = more_values v (with_part_at vs i new)

-- one step into a value
abbrev pub part_of : Value → ℕ → Value
part_of (ordinal n) i = ordinal n
part_of (compound vs) i = part_at vs i
part_of (points l) i = points l

abbrev pub with_part_of : Value → ℕ → Value → Value
with_part_of (ordinal n) i new = ordinal n
with_part_of (compound vs) i new = compound (with_part_at vs i new)
with_part_of (points l) i new = points l

-- the part that some places, outermost first, lead to
abbrev pub part : List ℕ → Value → Value
part [] v = v
part (i ∷ path) v = part path (part_of v i)

-- the value with another part there
abbrev pub with_part : List ℕ → Value → Value → Value
with_part [] v new = new
with_part (i ∷ path) v new = with_part_of v i (with_part path (part_of v i) new)

-- the places of some steps
abbrev pub path_of : List Selector → List ℕ
path_of selectors = map (λ s. s.place) selectors
