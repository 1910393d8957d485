-- Values as words: what a variable of a type holds, the words of a value, and where its parts lie among the cells of the whole.
use Rattle.std.specs.Prelude.{ℕ, zero, suc, ◌+◌, ◌*◌, ◌<◌, ◌≡◌, ℤ, Bool, true, false, List, [], ◌∷◌, ◌++◌, length, Option, Some, None}
use Rattle.std.specs.List.{slice_get}
use Rattle.pfc_tree.specs.Symbols.{Text}
use Rattle.pfc_types.specs.Types.{Forms, form_of, cells_in, extent}
use Rattle.pfc_types.specs.Fields.{FieldList}
use Rattle.pfc_types.specs.declared.types.TypeId.{TypeId}
use Rattle.pfc_types.specs.declared.types.TypeForm.{TypeForm}
use Rattle.pfc_types.specs.declared.types.TypeForm.TheVariants.{Array, Record}
use Rattle.pfc_semantics.specs.Values.{Value, Values, ordinal, compound, points, no_values, more_values}
use Rattle.pfc_translation.specs.Addresses.{fields_before}

-- ## Types

-- Arrays and records have parts. A value of a simple type, `synchronous` and an object have none.
abbrev pub has_parts : Option TypeForm → Bool
has_parts (Some (Array over low high element)) = true
has_parts (Some (Record fields)) = true
has_parts form = false

-- what is true of the table of types of a checked program
pub record AreCounted (forms : Forms) : Type 0 where
  -- what has no parts takes one cell
  pub single_cells : (t : TypeId) → has_parts (form_of forms t) ≡ false → cells_in forms t ≡ 1
  -- arrays and records take the cells of their parts
  pub array_cells : (t over element : TypeId) (low high : ℤ) → form_of forms t ≡ Some (Array over low high element)
      → cells_in forms t ≡ extent low high * cells_in forms element
  pub record_cells : (t : TypeId) (fields : FieldList) → form_of forms t ≡ Some (Record fields) → cells_in forms t ≡ fields_before forms fields (length fields)

-- a variable of this type may hold the value; an object is its number
mutual
  pub data IsOf (forms : Forms) : TypeId → Value → Type 0 where
    is_number : (t : TypeId) (n : ℤ) → has_parts (form_of forms t) ≡ false → IsOf forms t (ordinal n)
    is_array : (t over element : TypeId) (low high : ℤ) (vs : Values) → form_of forms t ≡ Some (Array over low high element)
        → AreOf forms (extent low high) element vs → IsOf forms t (compound vs)
    is_record : (t : TypeId) (fields : FieldList) (vs : Values) → form_of forms t ≡ Some (Record fields) → AreFieldsOf forms fields vs
        → IsOf forms t (compound vs)

  -- so many values of one type
  pub data AreOf (forms : Forms) : ℕ → TypeId → Values → Type 0 where
    none_of : (t : TypeId) → AreOf forms zero t no_values
    one_of : (n : ℕ) (t : TypeId) (v : Value) (vs : Values) → IsOf forms t v → AreOf forms n t vs → AreOf forms (suc n) t (more_values v vs)

  -- one value for each field
  pub data AreFieldsOf (forms : Forms) : FieldList → Values → Type 0 where
    no_field : AreFieldsOf forms [] no_values
    one_field : (f : Text × TypeId) (fields : FieldList) (v : Value) (vs : Values) → IsOf forms f.1 v → AreFieldsOf forms fields vs
        → AreFieldsOf forms (f ∷ fields) (more_values v vs)

-- the same where there is a type: a single process has none, and is its number
abbrev pub Fits : Forms → Option TypeId → Value → Type 0
Fits forms (Some t) v = IsOf forms t v
Fits forms None v = (n : ℤ) × (v ≡ ordinal n)

-- ## Words

-- Where a reference parameter points is no value of any type. What its cell holds depends on where that lies.
abbrev mutual
  pub words_of : Value → List ℤ
  words_of (ordinal n) = n ∷ []
  words_of (compound vs) = words_in vs
  words_of (points l) = []

  pub words_in : Values → List ℤ
  words_in no_values = []
  words_in (more_values v vs) = words_of v ++ words_in vs

-- ## Parts

-- a path from a value of type t to a part of type u, so many cells behind its first
pub data IsPath (forms : Forms) : Option TypeId → List ℕ → Option TypeId → ℕ → Type 0 where
  here : (t : Option TypeId) → IsPath forms t [] t 0
  into_element : (t over element : TypeId) (u : Option TypeId) (low high : ℤ) (i : ℕ) (path : List ℕ) (o : ℕ)
      → form_of forms t ≡ Some (Array over low high element) → i < extent low high → IsPath forms (Some element) path u o
      → IsPath forms (Some t) (i ∷ path) u (i * cells_in forms element + o)
  into_field : (t v : TypeId) (u : Option TypeId) (x : Text) (fields : FieldList) (i : ℕ) (path : List ℕ) (o : ℕ)
      → form_of forms t ≡ Some (Record fields) → slice_get fields i ≡ Some (x, v) → IsPath forms (Some v) path u o
      → IsPath forms (Some t) (i ∷ path) u (fields_before forms fields i + o)
