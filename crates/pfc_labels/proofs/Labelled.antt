-- The labels of the processes in a variable of each type.
use Rattle.std.proofs.Common.{◌≡◌, ◌≢◌, ℕ, zero, suc, ◌+◌, ◌-◌, ◌*◌, Bool, true, false, nat_lt, length-append, ◌<◌, ◌≤◌, ℤ, pos, List, [], ◌∷◌, ◌++◌, length}
use Rattle.std.proofs.Common.{map, take, drop, get_or, min, fold, Option, Some, None, refl, sym, ap, ap₂, ◌∙◌, arith}
use Rattle.std.specs.Prelude.{◌+ℤ◌}
use Rattle.std.proofs.lemmas.Bool.Decides.{nat_tests}
use Rattle.std.proofs.lemmas.List.{append_assoc, append-nil, map-append, drop_more, get_or_past, get_or_append_left, get_or-append_right, length-take-le}
use Rattle.pfc_tree.specs.Symbols.{Text}
use Rattle.pfc_types.specs.Types.{Forms, form_of, held_of, held_next, held_before, held_form, held_with, nothing_held}
use Rattle.pfc_types.specs.Types.{one_cell, extent}
use Rattle.pfc_types.specs.Fields.{FieldList}
use Rattle.pfc_types.specs.Scopes.{Names}
use Rattle.pfc_types.specs.declared.table.Held.{Held}
use Rattle.pfc_types.specs.declared.types.TypeId.{TypeId}
use Rattle.pfc_types.specs.declared.types.TypeForm.{TypeForm}
use Rattle.pfc_types.specs.declared.types.TypeForm.TheVariants.{Channel, Array, Record, Process}
use Rattle.pfc_types.specs.declared.scope.Meaning.{Meaning}
use Rattle.pfc_types.specs.declared.scope.Meaning.TheVariants.{Faulty}
use Rattle.pfc_code.specs.declared.images.ProcessInfo.{ProcessInfo}
use Rattle.pfc_semantics.proofs.Tables.{built_length, built_below, built_form, built_none}
use Rattle.pfc_translation.specs.Objects.{Labelled, no_process, labelled_before, elements_labelled, fields_labelled, labelled_form, labelled_next, all_labelled}
use Rattle.pfc_translation.specs.Objects.{name_labelled, names_labelled, with_index}

-- ## A type, and its parts

pub labelled_of_form : (forms : Forms) (t : TypeId) (form : TypeForm) → form_of forms t ≡ Some form →
    labelled_before (all_labelled forms) t ≡ labelled_form (all_labelled (take t.place forms)) form
labelled_of_form forms t form e = built_form Labelled labelled_next forms t form no_process e

pub part_before :
    (forms : Forms) (whole t : TypeId) → t.place < whole.place → whole.place ≤ length forms
    → labelled_before (all_labelled forms) t ≡ labelled_before (all_labelled (take whole.place forms)) t
part_before forms whole t below within = sym (built_below Labelled labelled_next forms whole.place t.place no_process below within)

pub part_past : (forms : Forms) (whole t : TypeId) → whole.place ≤ t.place → whole.place ≤ length forms →
    labelled_before (all_labelled (take whole.place forms)) t ≡ no_process
part_past forms whole t past within =
    get_or_past (all_labelled (take whole.place forms)) t.place no_process
    (omega (arith, past, built_length Labelled labelled_next [] (take whole.place forms), length-take-le whole.place forms within))

-- ## Where no process is held

-- what is known of the types so far: who holds no process has no label
record AreAlike (helds : List Held) (labels : List Labelled) : Type 0 where
  count : length helds ≡ length labels
  none : (n : ℕ) → (get_or helds n one_cell).processes ≡ 0 → (label : Text) → get_or labels n no_process label ≡ []

none_elements : (n : ℕ) (low : ℤ) (f : Labelled) (label : Text) → ((own : Text) → f own ≡ []) → elements_labelled n low f label ≡ []
none_elements zero low f label none = refl
none_elements (suc n) low f label none = ap₂ (λ xs ys. xs ++ ys) (none _) (none_elements n (low +ℤ pos 1) f label none)

module _ (helds : List Held) (labels : List Labelled) (alike : AreAlike helds labels) where
  none_fields :
      (fields : FieldList) (sum : Held) (label : Text) → (fold (λ sum f. held_with sum (held_before helds f.1)) sum fields).processes ≡ 0
      → (sum.processes ≡ 0) × (fields_labelled labels fields label ≡ [])
  none_fields [] sum label e = (e, refl)
  none_fields (f ∷ fields) sum label e =
      let (both, rest) = none_fields fields (held_with sum (held_before helds f.1)) label e in
      let first : sum.processes ≡ 0 = omega (arith, both) in
      let own : (held_before helds f.1).processes ≡ 0 = omega (arith, both) in
      (first, ap₂ (λ xs ys. xs ++ ys) (alike.none f.1.place own _) rest)

  none_form : (form : TypeForm) (label : Text) → (held_form helds form).processes ≡ 0 → labelled_form labels form label ≡ []
  none_form (Channel t) label e = refl
  none_form (Array over low high element) label e = by (extent low high) e
    where
      by : (n : ℕ) → min (n * (held_before helds element).processes) 1024 ≡ 0 → elements_labelled n low (labelled_before labels element) label ≡ []
      by zero h = refl
      by (suc n) h =
          let one : (held_before helds element).processes ≡ 0 = grind (arith, h) in
          none_elements (suc n) low (labelled_before labels element) label (λ own. alike.none element.place one own)
  none_form (Record fields) label e = (none_fields fields nothing_held label e).1
  none_form (Process n) label e = absurd (omega (arith, e))

  none_next : (form : Option TypeForm) (label : Text) → (held_next helds form).processes ≡ 0 → labelled_next labels form label ≡ []
  none_next None label e = refl
  none_next (Some form) label e = none_form form label e

module _ (helds : List Held) (labels : List Labelled) (form : Option TypeForm) (alike : AreAlike helds labels) where
  abbrev one : Held
  one = held_next helds form

  abbrev its : Labelled
  its = labelled_next labels form

  last : (k : ℕ) (label : Text) → (get_or (one ∷ []) k one_cell).processes ≡ 0 → get_or (its ∷ []) k no_process label ≡ []
  last zero label e = none_next helds labels alike form label e
  last (suc k) label e = refl

  pushed : (n : ℕ) → (get_or (helds ++ one ∷ []) n one_cell).processes ≡ 0 → (label : Text) → get_or (labels ++ its ∷ []) n no_process label ≡ []
  pushed n e label = by (nat_lt n (length labels)) refl
    where
      by : (b : Bool) → nat_lt n (length labels) ≡ b → get_or (labels ++ its ∷ []) n no_process label ≡ []
      by true h =
          let below : n < length labels = grind (arith, nat_tests) in
          let held_below : n < length helds = omega (arith, below, alike.count) in
          ap (λ (f : Labelled). f label) (get_or_append_left labels (its ∷ []) no_process n below)
          ∙ alike.none n (ap (λ (x : Held). x.processes) (sym (get_or_append_left helds (one ∷ []) one_cell n held_below)) ∙ e) label
      by false h =
          let past : length labels ≤ n = grind (arith, nat_tests) in
          let held_past : length helds ≤ n = omega (arith, past, alike.count) in
          ap (λ (f : Labelled). f label) (get_or-append_right labels (its ∷ []) (length labels) n no_process refl past)
          ∙ last (n - length labels) label
          (ap (λ (x : Held). x.processes) (sym (get_or-append_right helds (one ∷ []) (length labels) n one_cell alike.count past)) ∙ e)

  push_alike : AreAlike (helds ++ one ∷ []) (labels ++ its ∷ [])
  push_alike = record {
    count = length-append helds (one ∷ []) ∙ ap (λ (n : ℕ). n + 1) alike.count ∙ sym (length-append labels (its ∷ []));
    none = pushed;
  }

all_alike :
    (forms : Forms) (helds : List Held) (labels : List Labelled) → AreAlike helds labels
    → AreAlike (fold (λ before form. before ++ held_next before form ∷ []) helds forms)
    (fold (λ before form. before ++ labelled_next before form ∷ []) labels forms)
all_alike [] helds labels alike = alike
all_alike (form ∷ forms) helds labels alike =
    all_alike forms (helds ++ held_next helds form ∷ []) (labels ++ labelled_next labels form ∷ []) (push_alike helds labels form alike)

pub none_held : (forms : Forms) (t : TypeId) (label : Text) → (held_of forms t).processes ≡ 0 → labelled_before (all_labelled forms) t label ≡ []
none_held forms t label e = (all_alike forms [] [] (record { count = refl; none = λ n e label. refl })).none t.place e label

-- a type that is made of nothing
pub nothing_labelled : (forms : Forms) (t : TypeId) (label : Text) → form_of forms t ≡ None → labelled_before (all_labelled forms) t label ≡ []
nothing_labelled forms t label e = built_none Labelled labelled_next forms t.place no_process (λ f. f label ≡ []) e (λ before. refl) refl

-- ## One behind the other

module _ (f : ℕ × Text → ProcessInfo) where
  -- some more were added, and so many are left
  more_labelled : (old now : List ProcessInfo) (one rest all : List (ℕ × Text)) → now ≡ old ++ map f one →
      one ++ rest ≡ all → now ++ map f rest ≡ old ++ map f all
  more_labelled old now one rest all grown split =
      ap (λ (xs : List ProcessInfo). xs ++ map f rest) grown ∙ append_assoc old (map f one) (map f rest)
      ∙ ap (λ (xs : List ProcessInfo). old ++ xs) (sym (map-append f one rest) ∙ ap (map f) split)

  -- none were added
  pub none_labelled : (old : List ProcessInfo) (all : List (ℕ × Text)) → all ≡ [] → old ≡ old ++ map f all
  none_labelled old all e = sym (ap (λ (xs : List (ℕ × Text)). old ++ map f xs) e ∙ append-nil old)

  pub elements_next :
      (old now : List ProcessInfo) (g : Labelled) (label own : Text) (index behind : ℤ) (left n : ℕ)
      → left ≡ suc n → own ≡ with_index label index → behind ≡ index +ℤ pos 1 → now ≡ old ++ map f (g own)
      → now ++ map f (elements_labelled n behind g label) ≡ old ++ map f (elements_labelled left index g label)
  elements_next old now g label own index behind left n count is_own is_behind grown =
      more_labelled old now (g own) (elements_labelled n behind g label) (elements_labelled left index g label) grown
      (ap₂ (λ (x : Text) (i : ℤ). g x ++ elements_labelled n i g label) is_own is_behind ∙ ap (λ (k : ℕ). elements_labelled k index g label) (sym count))

  pub elements_done :
      (old : List ProcessInfo) (g : Labelled) (label : Text) (index : ℤ) (left : ℕ) → left ≡ 0 → old ≡ old ++ map f (elements_labelled left index g label)
  elements_done old g label index left none = none_labelled old (elements_labelled left index g label) (ap (λ (k : ℕ). elements_labelled k index g label) none)

  pub fields_next :
      (old now : List ProcessInfo) (before : List Labelled) (fields : FieldList) (i : ℕ) (name label own : Text) (t : TypeId)
      → i < length fields → ((d : Text × TypeId) → t ≡ (get_or fields i d).1) → ((d : Text × TypeId) → (get_or fields i d).0 ≡ name)
      → own ≡ label ++ 46 ∷ name → now ≡ old ++ map f (labelled_before before t own)
      → now ++ map f (fields_labelled before (drop (i + 1) fields) label) ≡ old ++ map f (fields_labelled before (drop i fields) label)
  fields_next old now before fields i name label own t within is_type is_name is_own grown =
      let d : Text × TypeId = (name, t) in
      let rest : FieldList = drop (i + 1) fields in
      more_labelled old now (labelled_before before t own) (fields_labelled before rest label) (fields_labelled before (drop i fields) label) grown
      (ap₂ (λ (u : TypeId) (x : Text). labelled_before before u x ++ fields_labelled before rest label) (is_type d)
      (is_own ∙ ap (λ (x : Text). label ++ 46 ∷ x) (sym (is_name d)))
      ∙ ap (λ (fs : FieldList). fields_labelled before fs label) (sym (drop_more fields i d within)))

  pub fields_done :
      (old : List ProcessInfo) (before : List Labelled) (fields : FieldList) (label : Text) → fields ≡ [] →
      old ≡ old ++ map f (fields_labelled before fields label)
  fields_done old before fields label none =
      none_labelled old (fields_labelled before fields label) (ap (λ (fs : FieldList). fields_labelled before fs label) none)

  pub names_next :
      (old now : List ProcessInfo) (all : List Labelled) (names : Names) (k : ℕ) → k < length names
      → ((d : Text × Meaning) → now ≡ old ++ map f (name_labelled all (get_or names k d).0 (get_or names k d).1))
      → now ++ map f (names_labelled all (drop (k + 1) names)) ≡ old ++ map f (names_labelled all (drop k names))
  names_next old now all names k within grown =
      let d : Text × Meaning = ([], Faulty) in
      let x : Text × Meaning = get_or names k d in
      more_labelled old now (name_labelled all x.0 x.1) (names_labelled all (drop (k + 1) names)) (names_labelled all (drop k names)) (grown d)
      (ap (λ (ns : Names). names_labelled all ns) (sym (drop_more names k d within)))

  pub names_done : (old : List ProcessInfo) (all : List Labelled) (names : Names) → names ≡ [] → old ≡ old ++ map f (names_labelled all names)
  names_done old all names none = none_labelled old (names_labelled all names) (ap (λ (ns : Names). names_labelled all ns) none)
