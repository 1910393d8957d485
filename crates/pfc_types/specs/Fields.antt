-- The fields of a record.
use Rattle.std.specs.Prelude.{ℕ, List, Option, bytes_eq, position}
use Rattle.std.specs.Map.{lookup, keys_of}
use Rattle.pfc_tree.specs.Symbols.{Text}
use Rattle.pfc_types.specs.declared.types.TypeId.{TypeId}

-- the fields of a record, in the order of the text
abbrev pub FieldList : Type 0
FieldList = List (Text × TypeId)

-- the type of the field with this name
abbrev pub type_named : FieldList → Text → Option TypeId
type_named fields x = lookup (bytes_eq x) fields

-- its place, from 0
abbrev pub position_of : FieldList → Text → Option ℕ
position_of fields x = position (bytes_eq x) (keys_of fields)
