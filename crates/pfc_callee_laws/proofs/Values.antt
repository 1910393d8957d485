-- No part of a variable whose type holds no object is one.
use Rattle.std.proofs.Common.{◌≡◌, ℕ, zero, suc, ◌<◌, ◌==◌, ◌||◌, ℤ, Bool, true, false, List, [], Option, Some, None, refl, sym, ap, ◌∙◌, subst, arith}
use Rattle.std.specs.List.{slice_get}
use Rattle.std.proofs.lemmas.Bool.Decides.{nat_tests}
use Rattle.pfc_tree.specs.Symbols.{Text}
use Rattle.pfc_types.specs.Types.{Forms, condition, integer, form_of, is_same, is_simple, is_object}
use Rattle.pfc_types.specs.Fields.{FieldList}
use Rattle.pfc_types.specs.declared.types.TypeId.{TypeId}
use Rattle.pfc_types.specs.declared.types.TypeForm.{TypeForm}
use Rattle.pfc_types.specs.declared.types.TypeForm.TheVariants.{Channel, Array, Record, Process}
use Rattle.pfc_cells.specs.Shapes.{IsPath, here, into_element, into_field}
use Rattle.pfc_standing_code.specs.Shapes.{has_object_form, is_object_type}
use Rattle.pfc_standing_code.specs.ValueTypes.{IsValueType, value_simple, value_array, value_record, AreValueFields, no_value_field, one_value_field}
use Rattle.pfc_type_laws.specs.Tables.{IsOfVariables, IsBuiltUp}
use Rattle.pfc_type_laws.proofs.ValueTypes.{value_type}
use Rattle.pfc_object_laws.proofs.Tables.{predeclared_none}

abbrev element_in : Option TypeForm → TypeId
element_in (Some (Array over low high element)) = element
element_in (Some (Channel t)) = integer
element_in (Some (Record fields)) = integer
element_in (Some (Process n)) = integer
element_in None = integer

abbrev fields_in : Option TypeForm → FieldList
fields_in (Some (Record fields)) = fields
fields_in (Some (Channel t)) = []
fields_in (Some (Array over low high element)) = []
fields_in (Some (Process n)) = []
fields_in None = []

field_same : (f g : Text × TypeId) → Some f ≡ Some g → f ≡ g
field_same f g e = cc

module _ (forms : Forms) (built : IsBuiltUp forms) where
  none_formed : (t : TypeId) (form : TypeForm) → form_of forms t ≡ Some form → t.place < 6 → ⊥
  none_formed t form e low = let both : None ≡ Some form = sym (predeclared_none forms built.predeclared t low) ∙ e in cc

  is_not : (t : TypeId) (n : ℕ) → (t.place ≡ n → ⊥) → (t.place == n) ≡ false
  is_not t n h = by (t.place == n) refl
    where
      by : (r : Bool) → (t.place == n) ≡ r → r ≡ false
      by true e = absurd (h (grind (arith, nat_tests)))
      by false e = refl

  plain : (t : TypeId) (f : Option TypeForm) → form_of forms t ≡ f → has_object_form f ≡ false → (t.place ≡ 3 → ⊥) → (t.place ≡ 4 → ⊥)
      → is_object_type forms (Some t) ≡ false
  plain t f e free p q =
      ap (λ (r : Bool). r || is_same t condition || has_object_form (form_of forms t)) (is_not t 3 p)
      ∙ (ap (λ (r : Bool). r || has_object_form (form_of forms t)) (is_not t 4 q) ∙ (ap (λ (o : Option TypeForm). has_object_form o) e ∙ free))

  -- a value is no object
  value_plain : {t : TypeId} → IsValueType forms t → is_object_type forms (Some t) ≡ false
  value_plain (value_simple t simple) =
      let low : t.place < 3 = grind (arith, nat_tests) in
      plain t None (predeclared_none forms built.predeclared t (omega (arith, low))) refl (λ e. omega (arith, e, low)) (λ e. omega (arith, e, low))
  value_plain (value_array t over element low high form inner) =
      plain t (Some (Array over low high element)) form refl (λ e. none_formed t (Array over low high element) form (omega (arith, e)))
      (λ e. none_formed t (Array over low high element) form (omega (arith, e)))
  value_plain (value_record t fields form inner) =
      plain t (Some (Record fields)) form refl (λ e. none_formed t (Record fields) form (omega (arith, e)))
      (λ e. none_formed t (Record fields) form (omega (arith, e)))

  element_value : {t : TypeId} → IsValueType forms t → (over element : TypeId) (low high : ℤ) → form_of forms t ≡ Some (Array over low high element)
      → IsValueType forms element
  element_value (value_simple t simple) over element low high e =
      let below : t.place < 3 = grind (arith, nat_tests) in absurd (none_formed t (Array over low high element) e (omega (arith, below)))
  element_value (value_array t over' element' low' high' form inner) over element low high e =
      subst (λ (u : TypeId). IsValueType forms u) (ap element_in (sym form ∙ e)) inner
  element_value (value_record t fields form inner) over element low high e =
      absurd (let both : Some (Record fields) ≡ Some (Array over low high element) = sym form ∙ e in cc)

  fields_value : {t : TypeId} → IsValueType forms t → (fields : FieldList) → form_of forms t ≡ Some (Record fields) → AreValueFields forms fields
  fields_value (value_simple t simple) fields e =
      let below : t.place < 3 = grind (arith, nat_tests) in absurd (none_formed t (Record fields) e (omega (arith, below)))
  fields_value (value_array t over element low high form inner) fields e =
      absurd (let both : Some (Array over low high element) ≡ Some (Record fields) = sym form ∙ e in cc)
  fields_value (value_record t fields' form inner) fields e = subst (λ (l : FieldList). AreValueFields forms l) (ap fields_in (sym form ∙ e)) inner

  field_value : {fields : FieldList} → AreValueFields forms fields → (i : ℕ) (x : Text) (v : TypeId) → slice_get fields i ≡ Some (x, v) → IsValueType forms v
  field_value no_value_field i x v e = absurd (cc)
  field_value (one_value_field f fields is are) zero x v e =
      subst (λ (u : TypeId). IsValueType forms u) (ap (λ (y : Text × TypeId). y.1) (field_same f (x, v) e)) is
  field_value (one_value_field f fields is are) (suc i) x v e = field_value are i x v e

  abbrev IsValue : Option TypeId → Type 0
  IsValue None = ⊥
  IsValue (Some t) = IsValueType forms t

  part_plain : {t u : Option TypeId} {path : List ℕ} {o : ℕ} → IsPath forms t path u o → IsValue t → is_object_type forms u ≡ false
  part_plain (here t) h = by t h
    where
      by : (o : Option TypeId) → IsValue o → is_object_type forms o ≡ false
      by None h = absurd h
      by (Some t) h = value_plain h
  part_plain (into_element t over element u low high i path o form below inner) h = part_plain inner (element_value h over element low high form)
  part_plain (into_field t v u x fields i path o form there inner) h = part_plain inner (field_value (fields_value h fields form) i x v there)

  pub no_part_is_object : (t : TypeId) (u : Option TypeId) (path : List ℕ) (o : ℕ) → IsOfVariables forms t → is_object forms t ≡ false
      → IsPath forms (Some t) path u o → is_object_type forms u ≡ false
  no_part_is_object t u path o of_variables free is = part_plain is (value_type forms built t of_variables free)

  -- nor is one of a simple type, which has no parts
  pub simple_part_plain : (t : TypeId) (u : Option TypeId) (path : List ℕ) (o : ℕ) → is_simple t ≡ true → IsPath forms (Some t) path u o
      → is_object_type forms u ≡ false
  simple_part_plain t u path o simple is = part_plain is (value_simple t simple)
