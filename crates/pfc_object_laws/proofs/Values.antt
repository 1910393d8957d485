-- The first values of variables of each type, with the numbers of their objects: they are of the type, and their words are those numbers.
use Rattle.std.proofs.Common.{◌≡◌, ℕ, zero, suc, ◌+◌, ◌<◌, ◌≤◌, ℤ, pos, Bool, true, false, List, [], ◌∷◌, ◌++◌, length, take, get_or, Some, None, refl, sym, ap}
use Rattle.std.proofs.Common.{ap₂, ◌∙◌, subst, arith, length-append}
use Rattle.pfc_types.specs.Types.{Forms, form_of, extent}
use Rattle.pfc_types.specs.Fields.{FieldList}
use Rattle.pfc_types.specs.declared.types.TypeId.{TypeId}
use Rattle.pfc_types.specs.declared.types.TypeForm.{TypeForm}
use Rattle.pfc_types.specs.declared.types.TypeForm.TheVariants.{Channel, Array, Record, Process}
use Rattle.pfc_semantics.specs.Values.{Value, Values, ordinal, compound, more_values}
use Rattle.pfc_semantics.specs.Objects.{Objects, Numbering, unnumbered, predeclared_numberings, numbering_of, numbered_copies, numbered_fields, numbering_form}
use Rattle.pfc_semantics.specs.Objects.{numbering_next, all_numberings}
use Rattle.pfc_semantics.proofs.Tables.{built_form, built_part}
use Rattle.pfc_translation.specs.Objects.{times, numbers_of, numbers_in}
use Rattle.pfc_cells.specs.Shapes.{AreCounted, has_parts, IsOf, AreOf, AreFieldsOf, is_number, is_array, is_record, none_of, one_of, no_field, one_field}
use Rattle.pfc_cells.specs.Shapes.{words_of, words_in}
use Rattle.pfc_type_laws.specs.Tables.{AreBefore, IsBefore, IsBuiltUp}
use Rattle.pfc_object_laws.specs.Objects.{marked}
use Rattle.pfc_object_laws.proofs.Tables.{by_types, formless_at}
use Rattle.pfc_object_laws.proofs.Lists.{marked_append}
use Rattle.pfc_object_laws.proofs.Parts.{is_lone_object, cells, cells_of_fields, cells_formless, cells_channel, cells_process, cells_array, cells_record}

abbrev pub unknown : Numbering
unknown = unnumbered (ordinal (pos 0))

abbrev pub lone_numbering : ℕ → Numbering
lone_numbering n = get_or predeclared_numberings n unknown

past_predeclared : (n : ℕ) → 6 ≤ n → lone_numbering n ≡ unknown
past_predeclared zero h = absurd (omega (arith, h))
past_predeclared (suc zero) h = absurd (omega (arith, h))
past_predeclared (suc (suc zero)) h = absurd (omega (arith, h))
past_predeclared (suc (suc (suc zero))) h = absurd (omega (arith, h))
past_predeclared (suc (suc (suc (suc zero)))) h = absurd (omega (arith, h))
past_predeclared (suc (suc (suc (suc (suc zero))))) h = absurd (omega (arith, h))
past_predeclared (suc (suc (suc (suc (suc (suc n)))))) h = refl

-- ## The numbering of each type

module _ (forms : Forms) (is_built : IsBuiltUp forms) where
  abbrev pub numbering : TypeId → Numbering
  numbering t = numbering_of (all_numberings forms) t

  pub numbering_formless : (t : TypeId) → form_of forms t ≡ None → numbering t ≡ lone_numbering t.place
  numbering_formless t e =
      formless_at Numbering numbering_next unknown lone_numbering (λ before. refl) past_predeclared forms is_built.predeclared t e

  -- of one that is made of something, by that
  pub numbering_formed : (t : TypeId) (form : TypeForm) → form_of forms t ≡ Some form → numbering t ≡ numbering_form (all_numberings (take t.place forms)) form
  numbering_formed t form e = built_form Numbering numbering_next forms t form unknown e

  pub part_numbering : (t : TypeId) (form : TypeForm) (u : TypeId) → form_of forms t ≡ Some form → u.place < t.place
      → numbering_of (all_numberings (take t.place forms)) u ≡ numbering u
  part_numbering t form u e below = built_part Numbering numbering_next forms t form u unknown e below

  pub array_numbering : (t over element : TypeId) (low high : ℤ) → form_of forms t ≡ Some (Array over low high element) → (monitor : ℕ) (o : Objects)
      → numbering t monitor o ≡ numbering_form (all_numberings forms) (Array over low high element) monitor o
  array_numbering t over element low high e monitor o =
      ap (λ (f : Numbering). f monitor o) (numbering_formed t (Array over low high element) e)
      ∙ ap (λ (f : Numbering). (let vs = numbered_copies (extent low high) f monitor o in record { is = compound vs.is; objects = vs.objects }))
      (part_numbering t (Array over low high element) element e (is_built.behind t (Array over low high element) e))

  fields_same : (t : TypeId) (form : TypeForm) (fields : FieldList) → form_of forms t ≡ Some form → AreBefore t.place fields → (monitor : ℕ) (o : Objects)
      → numbered_fields (all_numberings (take t.place forms)) fields monitor o ≡ numbered_fields (all_numberings forms) fields monitor o
  fields_same t form [] e below monitor o = refl
  fields_same t form (f ∷ fields) e below monitor o =
      let one = part_numbering t form f.1 e below.0 in
      ap (λ (g : Numbering). (let v = g monitor o in let vs = numbered_fields (all_numberings (take t.place forms)) fields monitor v.objects in
      record { is = more_values v.is vs.is; objects = vs.objects })) one
      ∙ (let v = numbering f.1 monitor o in
      ap (λ vs. record { is = more_values v.is vs.is; objects = vs.objects }) (fields_same t form fields e below.1 monitor v.objects))

  pub record_numbering : (t : TypeId) (fields : FieldList) → form_of forms t ≡ Some (Record fields) → (monitor : ℕ) (o : Objects)
      → numbering t monitor o ≡ numbering_form (all_numberings forms) (Record fields) monitor o
  record_numbering t fields e monitor o =
      ap (λ (f : Numbering). f monitor o) (numbering_formed t (Record fields) e)
      ∙ ap (λ vs. record { is = compound vs.is; objects = vs.objects })
      (fields_same t (Record fields) fields e (is_built.behind t (Record fields) e) monitor o)

-- ## Values of a type, and their words

-- a value is of the type, and its words are the numbers of its objects
pub record IsFirst (forms : Forms) (cells : List Bool) (t : TypeId) (v : Value) : Type 0 where
  pub is : IsOf forms t v
  pub words : words_of v ≡ marked cells (numbers_of v)
  pub count : length (numbers_of v) ≡ length cells

-- so those of an array's elements
record ElementsFirst (forms : Forms) (cells : List Bool) (n : ℕ) (t : TypeId) (vs : Values) : Type 0 where
  are : AreOf forms n t vs
  words : words_in vs ≡ marked (times n cells) (numbers_in vs)
  count : length (numbers_in vs) ≡ length (times n cells)

-- and of a record's fields
record FieldsFirst (forms : Forms) (cells : List Bool) (fields : FieldList) (vs : Values) : Type 0 where
  are : AreFieldsOf forms fields vs
  words : words_in vs ≡ marked cells (numbers_in vs)
  count : length (numbers_in vs) ≡ length cells

both_words : (a b : List Bool) (m n : List ℕ) (v w : List ℤ) → v ≡ marked a m → w ≡ marked b n → length m ≡ length a → v ++ w ≡ marked (a ++ b) (m ++ n)
both_words a b m n v w one two count = ap₂ (λ x y. x ++ y) one two ∙ sym (marked_append a b m n count)

both_count : (a b : List Bool) (m n : List ℕ) → length m ≡ length a → length n ≡ length b → length (m ++ n) ≡ length (a ++ b)
both_count a b m n one two = omega (arith, one, two, length-append m n, length-append a b)

module _ (forms : Forms) (is_built : IsBuiltUp forms) (counted : AreCounted forms) where
  abbrev EachFirst : TypeId → Type 0
  EachFirst t = (monitor : ℕ) (o : Objects) → IsFirst forms (cells forms is_built counted t) t (numbering forms is_built t monitor o).is

  lone_first : (n monitor : ℕ) (o : Objects)
      → (k : ℕ) × (b : Bool) × ((lone_numbering n monitor o).is ≡ ordinal (pos k)) × (is_lone_object n ≡ b ∷ []) ×
      (pos k ≡ get_or (marked (b ∷ []) (k ∷ [])) 0 (pos 0))
  lone_first zero monitor o = (0, false, refl, refl, refl)
  lone_first (suc zero) monitor o = (0, false, refl, refl, refl)
  lone_first (suc (suc zero)) monitor o = (0, false, refl, refl, refl)
  lone_first (suc (suc (suc zero))) monitor o = (o.semaphores, true, refl, refl, refl)
  lone_first (suc (suc (suc (suc zero)))) monitor o = (length o.conditions, true, refl, refl, refl)
  lone_first (suc (suc (suc (suc (suc zero))))) monitor o = (0, false, refl, refl, refl)
  lone_first (suc (suc (suc (suc (suc (suc n)))))) monitor o = (0, false, refl, refl, refl)

  number_first : (t : TypeId) (v : Value) (k : ℕ) (b : Bool) → has_parts (form_of forms t) ≡ false → v ≡ ordinal (pos k)
      → pos k ≡ get_or (marked (b ∷ []) (k ∷ [])) 0 (pos 0)
      → IsFirst forms (b ∷ []) t v
  number_first t v k b parts is word =
      subst (λ x. IsFirst forms (b ∷ []) t x) (sym is) (record { is = is_number t (pos k) parts; words = ap (λ w. w ∷ []) word; count = refl })

  formless : (t : TypeId) → form_of forms t ≡ None → EachFirst t
  formless t e monitor o =
      let at = lone_first t.place monitor o in
      let one = number_first t (numbering forms is_built t monitor o).is at.0 at.1 (ap has_parts e)
      (ap (λ (f : Numbering). (f monitor o).is) (numbering_formless forms is_built t e) ∙ at.2) at.4 in
      subst (λ (xs : List Bool). IsFirst forms xs t (numbering forms is_built t monitor o).is) (sym (cells_formless forms is_built counted t e ∙ at.3)) one

  elements_first : (n : ℕ) (t : TypeId) (f : Numbering) (xs : List Bool) → ((monitor : ℕ) (o : Objects) → IsFirst forms xs t (f monitor o).is)
      → (monitor : ℕ) (o : Objects)
      → ElementsFirst forms xs n t (numbered_copies n f monitor o).is
  elements_first zero t f xs each monitor o = record { are = none_of t; words = refl; count = refl }
  elements_first (suc n) t f xs each monitor o =
      let v = f monitor o in
      let one = each monitor o in
      let rest = elements_first n t f xs each monitor v.objects in
      let vs = numbered_copies n f monitor v.objects in
      record {
        are = one_of n t v.is vs.is one.is rest.are;
        words = both_words xs (times n xs) (numbers_of v.is) (numbers_in vs.is) (words_of v.is) (words_in vs.is) one.words rest.words one.count;
        count = both_count xs (times n xs) (numbers_of v.is) (numbers_in vs.is) one.count rest.count;
      }

  fields_first : (m : ℕ) (fields : FieldList) → AreBefore m fields → ((u : TypeId) → u.place < m → EachFirst u) → (monitor : ℕ) (o : Objects)
      → FieldsFirst forms (cells_of_fields forms is_built counted fields) fields (numbered_fields (all_numberings forms) fields monitor o).is
  fields_first m [] below each monitor o = record { are = no_field; words = refl; count = refl }
  fields_first m (f ∷ fields) below each monitor o =
      let v = numbering forms is_built f.1 monitor o in
      let one = each f.1 below.0 monitor o in
      let rest = fields_first m fields below.1 each monitor v.objects in
      let vs = numbered_fields (all_numberings forms) fields monitor v.objects in
      let a = cells forms is_built counted f.1 in
      let b = cells_of_fields forms is_built counted fields in
      record {
        are = one_field f fields v.is vs.is one.is rest.are;
        words = both_words a b (numbers_of v.is) (numbers_in vs.is) (words_of v.is) (words_in vs.is) one.words rest.words one.count;
        count = both_count a b (numbers_of v.is) (numbers_in vs.is) one.count rest.count;
      }

  -- with other cells and another value, which are the same
  as_first : (t : TypeId) (xs ys : List Bool) (v w : Value) → ys ≡ xs → w ≡ v → IsFirst forms xs t v → IsFirst forms ys t w
  as_first t xs ys v w c e h = subst (λ (zs : List Bool). IsFirst forms zs t w) (sym c) (subst (λ (x : Value). IsFirst forms xs t x) (sym e) h)

  formed : (t : TypeId) (form : TypeForm) → form_of forms t ≡ Some form → IsBefore t.place form → ((u : TypeId) → u.place < t.place → EachFirst u) → EachFirst t
  formed t (Channel u) e below each monitor o =
      as_first t (true ∷ []) _ (ordinal (pos o.channels)) _ (cells_channel forms is_built counted t u e)
      (ap (λ (f : Numbering). (f monitor o).is) (numbering_formed forms is_built t (Channel u) e))
      (number_first t (ordinal (pos o.channels)) o.channels true (ap has_parts e) refl refl)
  formed t (Process n) e below each monitor o =
      as_first t (true ∷ []) _ (ordinal (pos (length o.processes + 1))) _ (cells_process forms is_built counted t n e)
      (ap (λ (f : Numbering). (f monitor o).is) (numbering_formed forms is_built t (Process n) e))
      (number_first t (ordinal (pos (length o.processes + 1))) (length o.processes + 1) true (ap has_parts e) refl refl)
  formed t (Array over low high element) e below each monitor o =
      let vs = numbered_copies (extent low high) (numbering forms is_built element) monitor o in
      let inner =
      elements_first (extent low high) element (numbering forms is_built element) (cells forms is_built counted element) (each element below) monitor o in
      as_first t (times (extent low high) (cells forms is_built counted element)) _ (compound vs.is) _
      (cells_array forms is_built counted t over element low high e)
      (ap (λ v. v.is) (array_numbering forms is_built t over element low high e monitor o))
      (record { is = is_array t over element low high vs.is e inner.are; words = inner.words; count = inner.count })
  formed t (Record fields) e below each monitor o =
      let vs = numbered_fields (all_numberings forms) fields monitor o in
      let inner = fields_first t.place fields below each monitor o in
      as_first t (cells_of_fields forms is_built counted fields) _ (compound vs.is) _ (cells_record forms is_built counted t fields e)
      (ap (λ v. v.is) (record_numbering forms is_built t fields e monitor o))
      (record { is = is_record t fields vs.is e inner.are; words = inner.words; count = inner.count })

  -- the first value of a variable of each type
  pub first_of_type : (t : TypeId) → EachFirst t
  first_of_type = by_types forms is_built EachFirst formless formed
