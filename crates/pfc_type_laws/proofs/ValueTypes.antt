-- In a table that is built up a type without objects is a type of values.
use Rattle.std.proofs.Common.{◌≡◌, ◌≢◌, ℕ, zero, suc, ◌+◌, ◌*◌, ◌<◌, ◌≤◌, ℤ, int_le, Bool, true, false, ◌||◌, nat_lt, min, is_some, [], ◌∷◌, length, take, fold}
use Rattle.std.proofs.Common.{Option, Some, None, refl, sym, ap, ◌∙◌, arith, length-take}
use Rattle.std.proofs.lemmas.Bool.Decides.{nat_tests}
use Rattle.std.proofs.lemmas.Option.{slice_get-get_or}
use Rattle.pfc_types.specs.Types.{Forms, form_of, extent, is_simple, is_object, held_of, held_before, held_next, held_with, held_times, predeclared_held}
use Rattle.pfc_types.specs.Types.{nothing_held, one_cell, fields_held, all_held, most_processes}
use Rattle.pfc_types.specs.Fields.{FieldList}
use Rattle.pfc_types.specs.declared.types.TypeId.{TypeId}
use Rattle.pfc_types.specs.declared.types.TypeForm.{TypeForm}
use Rattle.pfc_types.specs.declared.types.TypeForm.TheVariants.{Channel, Array, Record, Process}
use Rattle.pfc_types.specs.declared.table.Held.{Held}
use Rattle.pfc_types.proofs.Clean.{and-right}
use Rattle.pfc_semantics.proofs.Tables.{built_at, built_length, built_form, built_part}
use Rattle.pfc_standing_code.specs.ValueTypes.{IsValueType, value_simple, value_array, value_record, AreValueFields, no_value_field, one_value_field}
use Rattle.pfc_type_laws.specs.Tables.{AreBefore, AreNoSignals, IsOfVariables, IsBuiltUp}

-- what is held is an object, or holds one
abbrev holds_object : Held → Bool
holds_object h = (h.shared || h.conditions) || nat_lt 0 h.processes

-- ## Sums and multiples of what is held

none_of : (p q : Bool) → (p || q) ≡ false → (p ≡ false) × (q ≡ false)
none_of false false e = (refl, refl)
none_of true q e = absurd (cc)
none_of false true e = absurd (cc)

free : (p q : Bool) (n : ℕ) → p ≡ false → q ≡ false → n ≡ 0 → ((p || q) || nat_lt 0 n) ≡ false
free p q n e f g = ap (λ (x : Bool). (x || q) || nat_lt 0 n) e ∙ ap (λ (x : Bool). x || nat_lt 0 n) f ∙ ap (λ (k : ℕ). nat_lt 0 k) g

nothing_left : (n : ℕ) → nat_lt 0 n ≡ false → n ≡ 0
nothing_left zero e = refl
nothing_left (suc n) e = absurd (grind (arith, nat_tests))

least_none : (n : ℕ) → min n 1024 ≡ 0 → n ≡ 0
least_none n e = grind (arith)

product_none : (k n : ℕ) → 0 < k → k * n ≡ 0 → n ≡ 0
product_none k zero some e = refl
product_none zero (suc n) some e = absurd (omega (arith, some))
product_none (suc k) (suc n) some e = absurd (grind (arith, e))

with_free : (a b : Held) → holds_object (held_with a b) ≡ false → (holds_object a ≡ false) × (holds_object b ≡ false)
with_free a b e =
    let all = none_of ((a.shared || b.shared) || (a.conditions || b.conditions)) (nat_lt 0 (most_processes (a.processes + b.processes))) e in
    let flags = none_of (a.shared || b.shared) (a.conditions || b.conditions) all.0 in
    let shared = none_of a.shared b.shared flags.0 in
    let conditions = none_of a.conditions b.conditions flags.1 in
    let sum : a.processes + b.processes ≡ 0 = least_none (a.processes + b.processes) (nothing_left (most_processes (a.processes + b.processes)) all.1) in (
      free a.shared a.conditions a.processes shared.0 conditions.0 (omega (arith, sum)),
      free b.shared b.conditions b.processes shared.1 conditions.1 (omega (arith, sum)),
    )

times_free : (k : ℕ) (a : Held) → 0 < k → holds_object (held_times k a) ≡ false → holds_object a ≡ false
times_free k a some e =
    let all = none_of (a.shared || a.conditions) (nat_lt 0 (most_processes (k * a.processes))) e in
    let flags = none_of a.shared a.conditions all.0 in
    let none : a.processes ≡ 0 = product_none k a.processes some (least_none (k * a.processes) (nothing_left (most_processes (k * a.processes)) all.1)) in
    free a.shared a.conditions a.processes flags.0 flags.1 none

some_values : (low high : ℤ) → int_le low high ≡ true → 0 < extent low high
some_values low high h = grind (arith, nat_tests)

module _ (forms : Forms) (built : IsBuiltUp forms) where
  -- ## What types hold

  part_held : (t : TypeId) (form : TypeForm) (u : TypeId) → form_of forms t ≡ Some form → u.place < t.place
      → held_before (all_held (take t.place forms)) u ≡ held_of forms u
  part_held t form u e below = built_part Held held_next forms t form u one_cell e below

  -- a predeclared type
  own_held : (t : TypeId) → t.place < length forms → form_of forms t ≡ None → held_of forms t ≡ predeclared_held t.place
  own_held t within e =
      built_at Held held_next forms t.place None one_cell (slice_get-get_or forms t.place None within ∙ ap Some e)
      ∙ ap predeclared_held (built_length Held held_next [] (take t.place forms) ∙ omega (arith, within, length-take t.place forms))

  early : (n : ℕ) (t : TypeId) → t.place ≡ n → n < 6 → n ≢ 5 → held_of forms t ≡ predeclared_held n → is_object forms t ≡ false → IsValueType forms t
  early zero t at below value held e = value_simple t (ap (λ (k : ℕ). nat_lt k 3) at)
  early (suc zero) t at below value held e = value_simple t (ap (λ (k : ℕ). nat_lt k 3) at)
  early (suc (suc zero)) t at below value held e = value_simple t (ap (λ (k : ℕ). nat_lt k 3) at)
  early (suc (suc (suc zero))) t at below value held e = absurd (let both : true ≡ false = sym (ap holds_object held) ∙ e in cc)
  early (suc (suc (suc (suc zero)))) t at below value held e = absurd (let both : true ≡ false = sym (ap holds_object held) ∙ e in cc)
  early (suc (suc (suc (suc (suc zero))))) t at below value held e = absurd (value refl)
  early (suc (suc (suc (suc (suc (suc n)))))) t at below value held e = absurd (omega (arith, below))

  abbrev AreFree : FieldList → Type 0
  AreFree [] = Unit {0}
  AreFree (f ∷ fields) = (is_object forms f.1 ≡ false) × AreFree fields

  fields_free : (t : TypeId) (form : TypeForm) (sum : Held) (fields : FieldList) → form_of forms t ≡ Some form → AreBefore t.place fields
      → holds_object (fold (λ s f. held_with s (held_before (all_held (take t.place forms)) f.1)) sum fields) ≡ false
      → (holds_object sum ≡ false) × AreFree fields
  fields_free t form sum [] e before h = (h, tt)
  fields_free t form sum (f ∷ fields) e before h =
      let part = held_before (all_held (take t.place forms)) f.1 in
      let rest = fields_free t form (held_with sum part) fields e before.1 h in
      let both = with_free sum part rest.0 in
      (both.0, (ap holds_object (sym (part_held t form f.1 e before.0)) ∙ both.1, rest.1))

  -- ## By induction over the places

  no_object : (a : Held) (t : TypeId) → held_of forms t ≡ a → is_object forms t ≡ false → holds_object a ≡ false
  no_object a t same h = ap holds_object (sym same) ∙ h

  formed : (t : TypeId) → form_of forms t ≡ None → t.place < length forms → t.place < 6
  formed t e within = by (nat_lt t.place 6) refl
    where
      by : (b : Bool) → nat_lt t.place 6 ≡ b → t.place < 6
      by true h = grind (arith, nat_tests)
      by false h =
          let past : 6 ≤ t.place = grind (arith, nat_tests) in
          absurd (let some : is_some (form_of forms t) ≡ true = built.made t past within in let both : true ≡ false = sym some ∙ ap is_some e in cc)

  -- of every type that stands before
  module _ (t : TypeId) (within : t.place < length forms)
      (inner : (u : TypeId) → u.place < t.place → IsOfVariables forms u → is_object forms u ≡ false → IsValueType forms u) where
    field_values : (fields : FieldList) → AreBefore t.place fields → AreNoSignals fields → AreFree fields → AreValueFields forms fields
    field_values [] before signals h = no_value_field
    field_values (f ∷ fields) before signals h =
        let first : f.1.place < t.place = before.0 in
        one_value_field f fields (inner f.1 first (omega (arith, first, within), signals.0) h.0) (field_values fields before.1 signals.1 h.1)

    value_by : (form : Option TypeForm) → form_of forms t ≡ form → t.place ≢ 5 → is_object forms t ≡ false → IsValueType forms t
    value_by None e signal h = early t.place t refl (formed t e within) signal (own_held t within e) h
    value_by (Some (Channel u)) e signal h = absurd (let is = no_object _ t (built_form Held held_next forms t (Channel u) one_cell e) h in cc)
    value_by (Some (Process k)) e signal h = absurd (let is = no_object _ t (built_form Held held_next forms t (Process k) one_cell e) h in cc)
    value_by (Some (Array over low high element)) e signal h =
        let form = Array over low high element in
        let before : element.place < t.place = built.behind t form e in
        let part = held_before (all_held (take t.place forms)) element in
        let some = some_values low high (and-right (is_simple over) (int_le low high) (built.bounds t form e)) in
        let own = times_free (extent low high) part some
        (no_object (held_times (extent low high) part) t (built_form Held held_next forms t form one_cell e) h) in
        value_array t over element low high e
        (inner element before (omega (arith, before, within), built.parts t form e) (ap holds_object (sym (part_held t form element e before)) ∙ own))
    value_by (Some (Record fields)) e signal h =
        let form = Record fields in
        let before : AreBefore t.place fields = built.behind t form e in
        let held = fields_held (all_held (take t.place forms)) fields in
        let free_fields = fields_free t form nothing_held fields e before (no_object held t (built_form Held held_next forms t form one_cell e) h) in
        value_record t fields e (field_values fields before (built.parts t form e) free_fields.1)

  value_below : (n : ℕ) (t : TypeId) → t.place < n → IsOfVariables forms t → is_object forms t ≡ false → IsValueType forms t
  value_below zero t below of_variables h = absurd (omega (arith, below))
  value_below (suc n) t below of_variables h =
      value_by t of_variables.0 (λ u before is free_of. value_below n u (omega (arith, below, before)) is free_of) (form_of forms t) refl of_variables.1 h

  pub value_type : (t : TypeId) → IsOfVariables forms t → is_object forms t ≡ false → IsValueType forms t
  value_type t of_variables h = value_below (suc t.place) t (omega arith) of_variables h
