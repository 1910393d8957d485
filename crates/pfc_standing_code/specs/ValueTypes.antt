-- Types of values, which hold no object: a simple type, or an array or a record of such.
use Rattle.std.specs.Prelude.{◌≡◌, ℤ, true, [], ◌∷◌, Some}
use Rattle.pfc_tree.specs.Symbols.{Text}
use Rattle.pfc_types.specs.Types.{Forms, form_of, is_simple}
use Rattle.pfc_types.specs.Fields.{FieldList}
use Rattle.pfc_types.specs.declared.types.TypeId.{TypeId}
use Rattle.pfc_types.specs.declared.types.TypeForm.TheVariants.{Array, Record}

mutual
  pub data IsValueType (forms : Forms) : TypeId → Type 0 where
    value_simple : (t : TypeId) → is_simple t ≡ true → IsValueType forms t
    value_array : (t over element : TypeId) (low high : ℤ) → form_of forms t ≡ Some (Array over low high element) → IsValueType forms element
        → IsValueType forms t
    value_record : (t : TypeId) (fields : FieldList) → form_of forms t ≡ Some (Record fields) → AreValueFields forms fields → IsValueType forms t

  pub data AreValueFields (forms : Forms) : FieldList → Type 0 where
    no_value_field : AreValueFields forms []
    one_value_field : (f : Text × TypeId) (fields : FieldList) → IsValueType forms f.1 → AreValueFields forms fields → AreValueFields forms (f ∷ fields)
