-- The first value of each type is of the type, and all its words are 0.
use Rattle.std.proofs.Common.{◌≡◌, ℕ, zero, suc, ◌<◌, false, ℤ, pos, List, [], ◌∷◌, ◌++◌, length, take, replicate, Option, Some, None, refl, sym, ap, ap₂, ◌∙◌}
use Rattle.std.proofs.Common.{subst, arith, length-append}
use Rattle.std.proofs.lemmas.List.{replicate-append-replicate}
use Rattle.pfc_types.specs.Types.{Forms, form_of, extent}
use Rattle.pfc_types.specs.Fields.{FieldList}
use Rattle.pfc_types.specs.declared.types.TypeId.{TypeId}
use Rattle.pfc_types.specs.declared.types.TypeForm.{TypeForm}
use Rattle.pfc_types.specs.declared.types.TypeForm.TheVariants.{Channel, Array, Record, Process}
use Rattle.pfc_semantics.specs.Values.{Value, Values, ordinal, copies}
use Rattle.pfc_semantics.specs.Objects.{first_of, first_fields, first_next, all_first, initial}
use Rattle.pfc_semantics.specs.Programs.{Program}
use Rattle.pfc_semantics.proofs.Tables.{built_form, built_none, built_part}
use Rattle.pfc_cells.specs.Shapes.{AreCounted, has_parts, IsOf, AreOf, AreFieldsOf, is_number, is_array, is_record, none_of, one_of, no_field, one_field}
use Rattle.pfc_cells.specs.Shapes.{words_of, words_in}
use Rattle.pfc_cells.proofs.Words.{words_length}
use Rattle.pfc_type_laws.specs.Tables.{AreBefore, IsBefore, IsBuiltUp}
use Rattle.pfc_call_laws.specs.Blocks.{HasFirstValues}

-- ## Zero words

abbrev pub AreZero : List ℤ → Type 0
AreZero words = words ≡ replicate (length words) (pos 0)

zero_append : (xs ys : List ℤ) → AreZero xs → AreZero ys → AreZero (xs ++ ys)
zero_append xs ys h k =
    ap₂ (λ a b. a ++ b) h k ∙ replicate-append-replicate (length xs) (length ys) (pos 0) ∙ ap (λ n. replicate n (pos 0)) (sym (length-append xs ys))

zero_copies : (n : ℕ) (v : Value) → AreZero (words_of v) → AreZero (words_in (copies n v))
zero_copies zero v h = refl
zero_copies (suc n) v h = zero_append (words_of v) (words_in (copies n v)) h (zero_copies n v h)

are_copies : (forms : Forms) (n : ℕ) (t : TypeId) (v : Value) → IsOf forms t v → AreOf forms n t (copies n v)
are_copies forms zero t v h = none_of t
are_copies forms (suc n) t v h = one_of n t v (copies n v) h (are_copies forms n t v h)

-- ## First values

record IsFirst (forms : Forms) (t : TypeId) (v : Value) : Type 0 where
  is : IsOf forms t v
  zero_words : AreZero (words_of v)

record FieldsFirst (forms : Forms) (fields : FieldList) (vs : Values) : Type 0 where
  are : AreFieldsOf forms fields vs
  zero_words : AreZero (words_in vs)

module _ (forms : Forms) (built : IsBuiltUp forms) where
  number_first : (t : TypeId) → has_parts (form_of forms t) ≡ false → initial forms t ≡ ordinal (pos 0) → IsFirst forms t (initial forms t)
  number_first t parts is = subst (λ v. IsFirst forms t v) (sym is) (record { is = is_number t (pos 0) parts; zero_words = refl })

  -- what is made of nothing, or is an object
  formless : (t : TypeId) → form_of forms t ≡ None → IsFirst forms t (initial forms t)
  formless t e =
      number_first t (ap has_parts e) (built_none Value first_next forms t.place (ordinal (pos 0)) (λ (v : Value). v ≡ ordinal (pos 0)) e (λ before. refl) refl)

  part_first : (t : TypeId) (form : TypeForm) (u : TypeId) → form_of forms t ≡ Some form → u.place < t.place
      → first_of (all_first (take t.place forms)) u ≡ initial forms u
  part_first t form u e below = built_part Value first_next forms t form u (ordinal (pos 0)) e below

  fields_first : (t : TypeId) (form : TypeForm) (fields : FieldList) → form_of forms t ≡ Some form → AreBefore t.place fields
      → ((u : TypeId) → u.place < t.place → IsFirst forms u (initial forms u)) → FieldsFirst forms fields (first_fields (all_first (take t.place forms)) fields)
  fields_first t form [] e below each = record { are = no_field; zero_words = refl }
  fields_first t form (f ∷ fields) e below each =
      let h = subst (λ v. IsFirst forms f.1 v) (sym (part_first t form f.1 e below.0)) (each f.1 below.0) in
      let k = fields_first t form fields e below.1 each in
      record {
        are = one_field f fields (first_of (all_first (take t.place forms)) f.1) (first_fields (all_first (take t.place forms)) fields) h.is k.are;
        zero_words = zero_append (words_of (first_of (all_first (take t.place forms)) f.1))
            (words_in (first_fields (all_first (take t.place forms)) fields)) h.zero_words k.zero_words;
      }

  formed : (t : TypeId) (form : TypeForm) → form_of forms t ≡ Some form → IsBefore t.place form
      → ((u : TypeId) → u.place < t.place → IsFirst forms u (initial forms u)) → IsFirst forms t (initial forms t)
  formed t (Channel u) e before each = number_first t (ap has_parts e) (built_form Value first_next forms t (Channel u) (ordinal (pos 0)) e)
  formed t (Process n) e before each = number_first t (ap has_parts e) (built_form Value first_next forms t (Process n) (ordinal (pos 0)) e)
  formed t (Array over low high element) e before each =
      let one : Value = first_of (all_first (take t.place forms)) element in
      let h = subst (λ v. IsFirst forms element v) (sym (part_first t (Array over low high element) element e before)) (each element before) in
      subst (λ v. IsFirst forms t v) (sym (built_form Value first_next forms t (Array over low high element) (ordinal (pos 0)) e))
      (record {
        is = is_array t over element low high (copies (extent low high) one) e (are_copies forms (extent low high) element one h.is);
        zero_words = zero_copies (extent low high) one h.zero_words;
      })
  formed t (Record fields) e before each =
      let h = fields_first t (Record fields) fields e before each in
      subst (λ v. IsFirst forms t v) (sym (built_form Value first_next forms t (Record fields) (ordinal (pos 0)) e))
      (record { is = is_record t fields (first_fields (all_first (take t.place forms)) fields) e h.are; zero_words = h.zero_words })

  -- of the types before a place
  first_below : (n : ℕ) (t : TypeId) → t.place < n → IsFirst forms t (initial forms t)
  first_below zero t h = absurd (omega (arith, h))
  first_below (suc n) t h = by (form_of forms t) refl (λ u k. first_below n u (omega (arith, h, k)))
    where
      by : (o : Option TypeForm) → form_of forms t ≡ o → ((u : TypeId) → u.place < t.place → IsFirst forms u (initial forms u))
          → IsFirst forms t (initial forms t)
      by None e each = formless t e
      by (Some form) e each = formed t form e (built.behind t form e) each

  first_all : (t : TypeId) → IsFirst forms t (initial forms t)
  first_all t = first_below (suc t.place) t (omega arith)

pub are_first : (g : Program) → IsBuiltUp g.state.forms → AreCounted g.state.forms → g.firsts ≡ all_first g.state.forms → HasFirstValues g
are_first g built counted is =
    record {
      typed = λ t. subst (λ (vs : List Value). IsOf g.state.forms t (first_of vs t)) (sym is) (first_all g.state.forms built t).is;
      zero = λ t. (
          let h = first_all g.state.forms built t in
          ap (λ (vs : List Value). words_of (first_of vs t)) is ∙ h.zero_words ∙ ap (λ n. replicate n (pos 0)) (words_length g.state.forms counted h.is));
    }
