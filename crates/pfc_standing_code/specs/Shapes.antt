-- Values as the code holds them: their shape, their words, and where their parts lie among the cells of the whole.
use Rattle.std.specs.Prelude.{ℕ, zero, suc, ◌*◌, ◌≡◌, ℤ, Bool, true, false, ◌||◌, if◌then◌else◌, [], ◌∷◌, length, Option, Some, None}
use Rattle.pfc_tree.specs.Symbols.{Text}
use Rattle.pfc_types.specs.Types.{Forms, semaphore, condition, form_of, cells_in, extent, is_same, is_simple, has_bounds}
use Rattle.pfc_types.specs.Fields.{FieldList}
use Rattle.pfc_types.specs.declared.types.TypeId.{TypeId}
use Rattle.pfc_types.specs.declared.types.TypeForm.{TypeForm}
use Rattle.pfc_types.specs.declared.types.TypeForm.TheVariants.{Channel, Array, Record, Process}
use Rattle.pfc_semantics.specs.Values.{Value, Values, ordinal, compound, no_values, more_values}
use Rattle.pfc_translation.specs.Addresses.{fields_before}

-- ## Shapes

-- What a value is for the code: a number, which takes one cell, or a whole array or record.
pub data Shape : Type 0 where
  a_number : Shape
  a_whole : TypeId → Shape

abbrev pub shape_of : TypeId → Shape
shape_of t = if is_simple t then a_number else a_whole t

abbrev pub shape_cells : Forms → Shape → ℕ
shape_cells forms a_number = 1
shape_cells forms (a_whole t) = cells_in forms t

-- ## Types whose cells are those of their parts

-- what is true of the table of types of a checked program
pub record IsSound (forms : Forms) : Type 0 where
  -- a simple type takes one cell and is made of nothing
  pub simple_cells : (t : TypeId) → is_simple t ≡ true → cells_in forms t ≡ 1
  pub simple_form : (t : TypeId) → is_simple t ≡ true → form_of forms t ≡ None
  -- arrays and records take the cells of their parts
  pub array_cells : (t over element : TypeId) (low high : ℤ) → form_of forms t ≡ Some (Array over low high element) →
      cells_in forms t ≡ extent low high * cells_in forms element
  pub record_cells : (t : TypeId) (fields : FieldList) → form_of forms t ≡ Some (Record fields) → cells_in forms t ≡ fields_before forms fields (length fields)
  -- an index is of a simple type, and the low bound is not above the high one
  pub bounds : (t : TypeId) (form : TypeForm) → form_of forms t ≡ Some form → has_bounds form ≡ true

-- ## Values of a type

-- a value has the shape of its type
mutual
  pub data IsOf (forms : Forms) : TypeId → Value → Type 0 where
    is_number : (t : TypeId) (n : ℤ) → is_simple t ≡ true → IsOf forms t (ordinal n)
    is_array : (t over element : TypeId) (low high : ℤ) (vs : Values) → form_of forms t ≡ Some (Array over low high element) →
        AreOf forms (extent low high) element vs → IsOf forms t (compound vs)
    is_record : (t : TypeId) (fields : FieldList) (vs : Values) → form_of forms t ≡ Some (Record fields) →
        AreFieldsOf forms fields vs → IsOf forms t (compound vs)

  -- so many values of one type
  pub data AreOf (forms : Forms) : ℕ → TypeId → Values → Type 0 where
    none_of : (t : TypeId) → AreOf forms zero t no_values
    one_of : (n : ℕ) (t : TypeId) (v : Value) (vs : Values) → IsOf forms t v → AreOf forms n t vs → AreOf forms (suc n) t (more_values v vs)

  -- one value for each field
  pub data AreFieldsOf (forms : Forms) : FieldList → Values → Type 0 where
    no_field : AreFieldsOf forms [] no_values
    one_field : (f : Text × TypeId) (fields : FieldList) (v : Value) (vs : Values) → IsOf forms f.1 v → AreFieldsOf forms fields vs →
        AreFieldsOf forms (f ∷ fields) (more_values v vs)

-- a value that is awaited in a shape
abbrev pub IsShaped : Forms → Shape → Value → Type 0
IsShaped forms a_number v = (n : ℤ) × (v ≡ ordinal n)
IsShaped forms (a_whole t) v = IsOf forms t v

-- ## Objects

abbrev pub has_object_form : Option TypeForm → Bool
has_object_form (Some (Channel t)) = true
has_object_form (Some (Process n)) = true
has_object_form form = false

-- a semaphore, a condition, a channel, a process of an array or record, or a single one
abbrev pub is_object_type : Forms → Option TypeId → Bool
is_object_type forms None = true
is_object_type forms (Some t) = is_same t semaphore || is_same t condition || has_object_form (form_of forms t)
