-- Values that hold no object.
use Rattle.std.proofs.Common.{◌≡◌, ◌≢◌, ℕ, zero, suc, ◌<◌, ℤ, Bool, true, false, ◌||◌, if◌then◌else◌, List, ◌∷◌, ◌++◌, slice_get, Option, Some, None, refl, sym}
use Rattle.std.proofs.Common.{ap, ◌∙◌, subst, arith}
use Rattle.pfc_tree.specs.Symbols.{Text}
use Rattle.pfc_types.specs.Types.{Forms, form_of, semaphore, condition, is_same, is_simple, extent, cells_in}
use Rattle.pfc_types.specs.Fields.{FieldList}
use Rattle.pfc_types.specs.declared.types.TypeId.{TypeId}
use Rattle.pfc_types.specs.declared.types.TypeForm.{TypeForm}
use Rattle.pfc_types.specs.declared.types.TypeForm.TheVariants.{Array, Record}
use Rattle.pfc_semantics.specs.Values.{Value, Values}
use Rattle.pfc_cells.specs.Shapes as cells
use Rattle.pfc_cells.specs.Shapes.{Fits, has_parts, IsPath, here, into_element, into_field}
use Rattle.pfc_standing_code.specs.Shapes as code
use Rattle.pfc_standing_code.specs.Shapes.{a_number, a_whole, shape_of, shape_cells, IsShaped, has_object_form, is_object_type}
use Rattle.pfc_standing_code.specs.ValueTypes.{IsValueType, value_simple, value_array, value_record, AreValueFields, no_value_field, one_value_field}
use Rattle.pfc_stack_laws.specs.Standing.{AreTypes}

not_some : (form : TypeForm) → Some form ≡ None → ⊥
not_some form h = cc

same_element : {over over' element element' : TypeId} {low low' high high' : ℤ} →
    Some (Array over low high element) ≡ Some (Array over' low' high' element') → element ≡ element'
same_element h = cc

same_fields : {fields fields' : FieldList} → Some (Record fields) ≡ Some (Record fields') → fields ≡ fields'
same_fields h = cc

no_array : {over element : TypeId} {low high : ℤ} {fields : FieldList} → Some (Array over low high element) ≡ Some (Record fields) → ⊥
no_array h = cc

same_array : {over over' element element' : TypeId} {low low' high high' : ℤ} → Some (Array over low high element) ≡ Some (Array over' low' high' element') →
    (element ≡ element') × (extent low high ≡ extent low' high')
same_array h = (cc, cc)

field_same : (f g : Text × TypeId) (fields : FieldList) → slice_get (f ∷ fields) 0 ≡ Some g → f ≡ g
field_same f g fields h = cc

tail_same : (i j : ℕ) (xs ys more : List ℕ) → j ∷ ys ≡ (i ∷ xs) ++ more → ys ≡ xs ++ more
tail_same i j xs ys more h = cc

head_same : (i j : ℕ) (xs ys more : List ℕ) → j ∷ ys ≡ (i ∷ xs) ++ more → i ≡ j
head_same i j xs ys more h = cc

type_same : (one other : Text × TypeId) → Some one ≡ Some other → one.1 ≡ other.1
type_same one other h = (let pair : one ≡ other = cc in ap (λ (y : Text × TypeId). y.1) pair)

module _ (forms : Forms) (types : AreTypes forms) where
  simple_parts : (t : TypeId) → is_simple t ≡ true → has_parts (form_of forms t) ≡ false
  simple_parts t h = ap has_parts (types.sound.simple_form t h)

  -- ## What the code writes fits what the store law asks

  mutual
    pub value_fits : {t : TypeId} {v : Value} → code.IsOf forms t v → cells.IsOf forms t v
    value_fits (code.is_number t n simple) = cells.is_number t n (simple_parts t simple)
    value_fits (code.is_array t over element low high vs form are) = cells.is_array t over element low high vs form (values_fit are)
    value_fits (code.is_record t fields vs form are) = cells.is_record t fields vs form (fields_fit are)

    values_fit : {n : ℕ} {t : TypeId} {vs : Values} → code.AreOf forms n t vs → cells.AreOf forms n t vs
    values_fit (code.none_of t) = cells.none_of t
    values_fit (code.one_of n t v vs is are) = cells.one_of n t v vs (value_fits is) (values_fit are)

    fields_fit : {fields : FieldList} {vs : Values} → code.AreFieldsOf forms fields vs → cells.AreFieldsOf forms fields vs
    fields_fit code.no_field = cells.no_field
    fields_fit (code.one_field f fields v vs is are) = cells.one_field f fields v vs (value_fits is) (fields_fit are)

  -- ## And what is read of a plain type is as the code awaits it

  mutual
    pub plain_value : {t : TypeId} {v : Value} → IsValueType forms t → cells.IsOf forms t v → code.IsOf forms t v
    plain_value (value_simple t simple) (cells.is_number u n parts) = code.is_number u n simple
    plain_value (value_simple t simple) (cells.is_array u over element low high vs form are) = absurd (not_some _ (sym form ∙ types.sound.simple_form u simple))
    plain_value (value_simple t simple) (cells.is_record u fields vs form are) = absurd (not_some _ (sym form ∙ types.sound.simple_form u simple))
    plain_value (value_array t over element low high form plain) (cells.is_number u n parts) =
        absurd (let both : true ≡ false = ap has_parts (sym form) ∙ parts in cc)
    plain_value (value_array t over element low high form plain) (cells.is_array u over' element' low' high' vs form' are) =
        code.is_array u over' element' low' high' vs form'
        (plain_values (subst (λ (x : TypeId). IsValueType forms x) (same_element (sym form ∙ form')) plain) are)
    plain_value (value_array t over element low high form plain) (cells.is_record u fields vs form' are) = absurd (no_array (sym form ∙ form'))
    plain_value (value_record t fields form plain) (cells.is_number u n parts) = absurd (let both : true ≡ false = ap has_parts (sym form) ∙ parts in cc)
    plain_value (value_record t fields form plain) (cells.is_array u over' element' low' high' vs form' are) = absurd (no_array (sym form' ∙ form))
    plain_value (value_record t fields form plain) (cells.is_record u fields' vs form' are) =
        code.is_record u fields' vs form' (plain_fields (subst (λ (x : FieldList). AreValueFields forms x) (same_fields (sym form ∙ form')) plain) are)

    plain_values : {n : ℕ} {t : TypeId} {vs : Values} → IsValueType forms t → cells.AreOf forms n t vs → code.AreOf forms n t vs
    plain_values plain (cells.none_of t) = code.none_of t
    plain_values plain (cells.one_of n t v vs is are) = code.one_of n t v vs (plain_value plain is) (plain_values plain are)

    plain_fields : {fields : FieldList} {vs : Values} → AreValueFields forms fields → cells.AreFieldsOf forms fields vs → code.AreFieldsOf forms fields vs
    plain_fields no_value_field cells.no_field = code.no_field
    plain_fields (one_value_field f fields plain others) (cells.one_field f' fields' v vs is are) =
        code.one_field f' fields' v vs (plain_value plain is) (plain_fields others are)

  by_shape : (t : TypeId) (v : Value) (simple : Bool) → is_simple t ≡ simple → code.IsOf forms t v → IsShaped forms (if simple then a_number else a_whole t) v
  by_shape t v false is h = h
  by_shape _ _ true is (code.is_number t n simple) = (n, refl)
  by_shape _ _ true is (code.is_array t over element low high vs form are) = absurd (not_some _ (sym form ∙ types.sound.simple_form t is))
  by_shape _ _ true is (code.is_record t fields vs form are) = absurd (not_some _ (sym form ∙ types.sound.simple_form t is))

  -- a value of a plain type has its shape
  pub plain_shape : (t : TypeId) (v : Value) → IsValueType forms t → Fits forms (Some t) v → IsShaped forms (shape_of t) v
  plain_shape t v plain h = by_shape t v (is_simple t) refl (plain_value plain h)

  by_cells : (t : TypeId) (simple : Bool) → is_simple t ≡ simple → shape_cells forms (if simple then a_number else a_whole t) ≡ cells_in forms t
  by_cells t true is = sym (types.sound.simple_cells t is)
  by_cells t false is = refl

  -- and takes as many cells
  pub plain_cells : (t : TypeId) → shape_cells forms (shape_of t) ≡ cells_in forms t
  plain_cells t = by_cells t (is_simple t) refl

  -- ## No object is a part of it

  is_no_object : (t : TypeId) → is_same t semaphore ≡ false → is_same t condition ≡ false →
      has_object_form (form_of forms t) ≡ false → is_object_type forms (Some t) ≡ false
  is_no_object t one two three = ap (λ (x : Bool). x || is_same t condition || has_object_form (form_of forms t)) one ∙
      ap (λ (x : Bool). x || has_object_form (form_of forms t)) two ∙ three

  formed : (t : TypeId) (form : TypeForm) (n : ℕ) → n < 6 → form_of forms t ≡ Some form → t.place ≢ n
  formed t form n below is same = not_some form (sym is ∙ types.predeclared t (subst (λ (k : ℕ). k < 6) (sym same) below))

  none_object : {t : TypeId} {v : Value} → code.IsOf forms t v → is_object_type forms (Some t) ≡ false
  none_object (code.is_number t n simple) =
      is_no_object t (grind (arith, simple)) (grind (arith, simple)) (ap has_object_form (types.sound.simple_form t simple))
  none_object (code.is_array t over element low high vs form are) =
      let one : t.place ≢ 3 = formed t (Array over low high element) 3 (omega arith) form in
      let two : t.place ≢ 4 = formed t (Array over low high element) 4 (omega arith) form in
      is_no_object t (grind (arith, one)) (grind (arith, two)) (ap has_object_form form)
  none_object (code.is_record t fields vs form are) =
      let one : t.place ≢ 3 = formed t (Record fields) 3 (omega arith) form in
      let two : t.place ≢ 4 = formed t (Record fields) 4 (omega arith) form in
      is_no_object t (grind (arith, one)) (grind (arith, two)) (ap has_object_form form)

  by_form : (t : TypeId) (form : TypeForm) → form_of forms t ≡ Some form → is_object_type forms (Some t) ≡ true → has_object_form (Some form) ≡ false → ⊥
  by_form t form is object other =
      let one : t.place ≢ 3 = formed t form 3 (omega arith) is in
      let two : t.place ≢ 4 = formed t form 4 (omega arith) is in
      let none : is_object_type forms (Some t) ≡ false = is_no_object t (grind (arith, one)) (grind (arith, two)) (ap has_object_form is ∙ other) in
      cc

  -- ## Parts

  one_value : {n : ℕ} {t : TypeId} {vs : Values} (i : ℕ) → i < n → code.AreOf forms n t vs → (v : Value) × code.IsOf forms t v
  one_value i below (code.none_of t) = absurd (omega (arith, below))
  one_value i below (code.one_of n t v vs is are) = (v, is)

  one_field : {fields : FieldList} {vs : Values} (i : ℕ) (x : Text) (t : TypeId) → slice_get fields i ≡ Some (x, t) →
      code.AreFieldsOf forms fields vs → (v : Value) × code.IsOf forms t v
  one_field i x t there code.no_field = absurd (cc)
  one_field zero x t there (code.one_field f fields v vs is are) =
      (v, subst (λ (y : Text × TypeId). code.IsOf forms y.1 v) (field_same f (x, t) fields there) is)
  one_field (suc i) x t there (code.one_field f fields v vs is are) = one_field i x t there are

  -- no part of a value without objects is an object
  pub part_plain : {t : TypeId} {v : Value} {path : List ℕ} {u : Option TypeId} {o : ℕ} → code.IsOf forms t v →
      IsPath forms (Some t) path u o → is_object_type forms u ≡ false
  part_plain h (here _) = none_object h
  part_plain (code.is_number t n simple) (into_element _ over element u low high i path o form below rest) =
      absurd (not_some _ (sym form ∙ types.sound.simple_form t simple))
  part_plain (code.is_array t over element low high vs form are) (into_element _ over' element' u low' high' i path o form' below rest) =
      let same = same_array (sym form ∙ form') in
      let one = one_value i below (subst (λ (n : ℕ). code.AreOf forms n element vs) same.1 are) in
      part_plain (subst (λ (x : TypeId). code.IsOf forms x one.0) same.0 one.1) rest
  part_plain (code.is_record t fields vs form are) (into_element _ over' element' u low' high' i path o form' below rest) = absurd (no_array (sym form' ∙ form))
  part_plain (code.is_number t n simple) (into_field _ w u x fields i path o form there rest) =
      absurd (not_some _ (sym form ∙ types.sound.simple_form t simple))
  part_plain (code.is_array t over element low high vs form are) (into_field _ w u x fields' i path o form' there rest) = absurd (no_array (sym form ∙ form'))
  part_plain (code.is_record t fields vs form are) (into_field _ w u x fields' i path o form' there rest) =
      let one = one_field i x w (subst (λ (fs : FieldList). slice_get fs i ≡ Some (x, w)) (sym (same_fields (sym form ∙ form'))) there) are in
      part_plain one.1 rest

  -- ## Paths

  -- where one path begins another, the rest leads on from there
  pub path_split : {t : Option TypeId} {path more whole : List ℕ} {u v : Option TypeId} {o p : ℕ} → whole ≡ path ++ more → IsPath forms t path u o →
      IsPath forms t whole v p → (q : ℕ) × IsPath forms u more v q
  path_split {v = v} {p = p} e (here t) h = (p, subst (λ (l : List ℕ). IsPath forms t l v p) e h)
  path_split e (into_element t over element u low high i path o form below rest) (here _) = absurd (cc)
  path_split e (into_element t over element u low high i path o form below rest) (into_element _ over' element' v low' high' j path' p form' below' rest') =
      let same = same_array (sym form ∙ form') in
      path_split (tail_same i j path path' _ e) rest (subst (λ (x : TypeId). IsPath forms (Some x) path' v p) (sym same.0) rest')
  path_split e (into_element t over element u low high i path o form below rest) (into_field _ w v x fields j path' p form' there rest') =
      absurd (no_array (sym form ∙ form'))
  path_split e (into_field t w u x fields i path o form there rest) (here _) = absurd (cc)
  path_split e (into_field t w u x fields i path o form there rest) (into_element _ over' element' v low' high' j path' p form' below' rest') =
      absurd (no_array (sym form' ∙ form))
  path_split e (into_field t w u x fields i path o form there rest) (into_field _ w' v x' fields' j path' p form' there' rest') =
      let same : slice_get fields j ≡ Some (x', w') =
      subst (λ (fs : FieldList). slice_get fs j ≡ Some (x', w')) (sym (same_fields (sym form ∙ form'))) there' in
      let one : Text × TypeId = (x, w) in
      let other : Text × TypeId = (x', w') in
      let field : Some one ≡ Some other = sym there ∙ ap (λ k. slice_get fields k) (head_same i j path path' _ e) ∙ same in
      path_split (tail_same i j path path' _ e) rest (subst (λ (y : TypeId). IsPath forms (Some y) path' v p) (sym (type_same one other field)) rest')

  -- an object has no parts
  pub object_path : {t u : Option TypeId} {path : List ℕ} {o : ℕ} → is_object_type forms t ≡ true → IsPath forms t path u o → is_object_type forms u ≡ true
  object_path object (here t) = object
  object_path object (into_element t over element u low high i path o form below rest) = absurd (by_form t (Array over low high element) form object refl)
  object_path object (into_field t w u x fields i path o form there rest) = absurd (by_form t (Record fields) form object refl)
