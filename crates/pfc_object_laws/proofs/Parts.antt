-- Which cells of a variable hold an object: those of its parts that are objects.
use Rattle.std.proofs.Common.{◌≡◌, ◌==◌, ℕ, zero, suc, ◌+◌, ◌*◌, ◌<◌, ◌≤◌, ℤ, Bool, true, false, ◌||◌, List, [], ◌∷◌, ◌++◌, length, take, get_or, slice_get}
use Rattle.std.proofs.Common.{Option, Some, None, refl, sym, ap, ap₂, ◌∙◌, subst, arith, length-append}
use Rattle.std.proofs.lemmas.Bool.Decides.{nat_tests}
use Rattle.pfc_tree.specs.Symbols.{Text}
use Rattle.pfc_types.specs.Types.{Forms, form_of, cells_in, extent}
use Rattle.pfc_types.specs.Fields.{FieldList}
use Rattle.pfc_types.specs.declared.types.TypeId.{TypeId}
use Rattle.pfc_types.specs.declared.types.TypeForm.{TypeForm}
use Rattle.pfc_types.specs.declared.types.TypeForm.TheVariants.{Channel, Array, Record, Process}
use Rattle.pfc_translation.specs.Addresses.{fields_before}
use Rattle.pfc_translation.specs.Objects.{cells_before, times, object_fields, predeclared_objects, object_next, all_objects}
use Rattle.pfc_semantics.proofs.Tables.{built_form, built_part}
use Rattle.pfc_cells.specs.Shapes.{AreCounted, has_parts, IsPath, here, into_element, into_field}
use Rattle.pfc_cells.proofs.Words.{fields_next}
use Rattle.pfc_standing_code.specs.Shapes.{is_object_type, has_object_form}
use Rattle.pfc_type_laws.specs.Tables.{AreBefore, IsBefore, IsBuiltUp}
use Rattle.pfc_object_laws.proofs.Tables.{by_types, formless_at, predeclared_none}
use Rattle.pfc_object_laws.proofs.Lists.{get_left, get_right_at, Either, in_left, in_right, either, times_length, times_at, in_times}

-- whether a type that is made of nothing is an object
abbrev pub is_lone_object : ℕ → List Bool
is_lone_object n = get_or predeclared_objects n false ∷ []

past_predeclared : (n : ℕ) → 6 ≤ n → is_lone_object n ≡ false ∷ []
past_predeclared zero h = absurd (omega (arith, h))
past_predeclared (suc zero) h = absurd (omega (arith, h))
past_predeclared (suc (suc zero)) h = absurd (omega (arith, h))
past_predeclared (suc (suc (suc zero))) h = absurd (omega (arith, h))
past_predeclared (suc (suc (suc (suc zero)))) h = absurd (omega (arith, h))
past_predeclared (suc (suc (suc (suc (suc zero))))) h = absurd (omega (arith, h))
past_predeclared (suc (suc (suc (suc (suc (suc n)))))) h = refl

-- ## The cells of each type

module _ (forms : Forms) (is_built : IsBuiltUp forms) (counted : AreCounted forms) where
  -- the cells of a type
  abbrev pub cells : TypeId → List Bool
  cells t = cells_before (all_objects forms) t

  -- those of some fields
  abbrev pub cells_of_fields : FieldList → List Bool
  cells_of_fields fields = object_fields (all_objects forms) fields

  pub cells_formless : (t : TypeId) → form_of forms t ≡ None → cells t ≡ is_lone_object t.place
  cells_formless t e =
      formless_at (List Bool) object_next (false ∷ []) is_lone_object (λ before. refl) past_predeclared forms is_built.predeclared t e

  pub cells_channel : (t u : TypeId) → form_of forms t ≡ Some (Channel u) → cells t ≡ true ∷ []
  cells_channel t u e = built_form (List Bool) object_next forms t (Channel u) (false ∷ []) e

  pub cells_process : (t : TypeId) (n : ℕ) → form_of forms t ≡ Some (Process n) → cells t ≡ true ∷ []
  cells_process t n e = built_form (List Bool) object_next forms t (Process n) (false ∷ []) e

  pub cells_array : (t over element : TypeId) (low high : ℤ) → form_of forms t ≡ Some (Array over low high element)
      → cells t ≡ times (extent low high) (cells element)
  cells_array t over element low high e =
      built_form (List Bool) object_next forms t (Array over low high element) (false ∷ []) e
      ∙ ap (λ (xs : List Bool). times (extent low high) xs)
      (built_part (List Bool) object_next forms t (Array over low high element) element (false ∷ []) e
      (is_built.behind t (Array over low high element) e))

  same_fields : (t : TypeId) (form : TypeForm) (fields : FieldList) → form_of forms t ≡ Some form → AreBefore t.place fields
      → object_fields (all_objects (take t.place forms)) fields ≡ cells_of_fields fields
  same_fields t form [] e below = refl
  same_fields t form (f ∷ fields) e below =
      ap₂ (λ (xs ys : List Bool). xs ++ ys) (built_part (List Bool) object_next forms t form f.1 (false ∷ []) e below.0) (same_fields t form fields e below.1)

  pub cells_record : (t : TypeId) (fields : FieldList) → form_of forms t ≡ Some (Record fields) → cells t ≡ cells_of_fields fields
  cells_record t fields e =
      built_form (List Bool) object_next forms t (Record fields) (false ∷ []) e
      ∙ same_fields t (Record fields) fields e (is_built.behind t (Record fields) e)

  -- ## How many

  fields_count : (fields : FieldList) (n : ℕ) → AreBefore n fields → ((u : TypeId) → u.place < n → length (cells u) ≡ cells_in forms u)
      → length (cells_of_fields fields) ≡ fields_before forms fields (length fields)
  fields_count [] n below each = refl
  fields_count (f ∷ fields) n below each =
      let one : length (cells f.1) ≡ cells_in forms f.1 = each f.1 below.0 in
      let rest : length (cells_of_fields fields) ≡ fields_before forms fields (length fields) = fields_count fields n below.1 each in
      let next : fields_before forms (f ∷ fields) (suc (length fields)) ≡ cells_in forms f.1 + fields_before forms fields (length fields) =
      fields_next forms f fields (length fields) in
      length-append (cells f.1) (cells_of_fields fields) ∙ omega (arith, one, rest, next)

  count_formed : (t : TypeId) (form : TypeForm) → form_of forms t ≡ Some form → IsBefore t.place form
      → ((u : TypeId) → u.place < t.place → length (cells u) ≡ cells_in forms u) → length (cells t) ≡ cells_in forms t
  count_formed t (Channel u) e below each = ap length (cells_channel t u e) ∙ sym (counted.single_cells t (ap has_parts e))
  count_formed t (Process n) e below each = ap length (cells_process t n e) ∙ sym (counted.single_cells t (ap has_parts e))
  count_formed t (Array over low high element) e below each =
      ap length (cells_array t over element low high e) ∙ times_length (extent low high) (cells element)
      ∙ ap (λ k. extent low high * k) (each element below) ∙ sym (counted.array_cells t over element low high e)
  count_formed t (Record fields) e below each =
      ap length (cells_record t fields e) ∙ fields_count fields t.place below each ∙ sym (counted.record_cells t fields e)

  -- a variable has as many as its type takes
  pub cells_count : (t : TypeId) → length (cells t) ≡ cells_in forms t
  cells_count =
      by_types forms is_built (λ t. length (cells t) ≡ cells_in forms t)
      (λ t e. ap length (cells_formless t e) ∙ sym (counted.single_cells t (ap has_parts e)))
      count_formed

  -- ## Along paths

  field_at : (fields : FieldList) (i : ℕ) (f : Text × TypeId) (j : ℕ) (b : Bool) → slice_get fields i ≡ Some f → slice_get (cells f.1) j ≡ Some b
      → slice_get (cells_of_fields fields) (fields_before forms fields i + j) ≡ Some b
  field_at [] i f j b there e = absurd (cc)
  field_at (g ∷ fields) zero f j b there e =
      let same : f ≡ g = cc in
      ap (λ k. slice_get (cells g.1 ++ cells_of_fields fields) k) (first_place j)
      ∙ get_left (cells g.1) (cells_of_fields fields) j b (ap (λ (h : Text × TypeId). slice_get (cells h.1) j) (sym same) ∙ e)
    where
      first_place : (j : ℕ) → fields_before forms (g ∷ fields) 0 + j ≡ j
      first_place j = omega arith
  field_at (g ∷ fields) (suc i) f j b there e =
      let next : fields_before forms (g ∷ fields) (suc i) ≡ cells_in forms g.1 + fields_before forms fields i = fields_next forms g fields i in
      let one : length (cells g.1) ≡ cells_in forms g.1 = cells_count g.1 in
      get_right_at (cells g.1) (cells_of_fields fields) (fields_before forms (g ∷ fields) (suc i) + j) (fields_before forms fields i + j)
      (omega (arith, next, one))
      ∙ field_at fields i f j b there e

  -- a single process takes one, which is an object
  abbrev pub cells_at : Option TypeId → List Bool
  cells_at None = true ∷ []
  cells_at (Some t) = cells t

  -- the cells of a part are among those of the whole
  pub path_cells : {t : Option TypeId} {path : List ℕ} {u : Option TypeId} {o : ℕ} → IsPath forms t path u o → (j : ℕ) (b : Bool)
      → slice_get (cells_at u) j ≡ Some b → slice_get (cells_at t) (o + j) ≡ Some b
  path_cells (here t) j b e = ap (λ k. slice_get (cells_at t) k) (none_before j) ∙ e
    where
      none_before : (k : ℕ) → 0 + k ≡ k
      none_before k = omega arith
  path_cells (into_element t over element u low high i path o form below inner) j b e =
      let deeper : slice_get (cells element) (o + j) ≡ Some b = path_cells inner j b e in
      let count : length (cells element) ≡ cells_in forms element = cells_count element in
      let place : i * cells_in forms element + o + j ≡ i * length (cells element) + (o + j) =
      ap (λ c. i * c + o + j) (sym count) ∙ omega arith in
      ap₂ (λ (xs : List Bool) k. slice_get xs k) (cells_array t over element low high form) place
      ∙ times_at (extent low high) i (cells element) (o + j) b below deeper
  path_cells (into_field t v u x fields i path o form there inner) j b e =
      let deeper : slice_get (cells v) (o + j) ≡ Some b = path_cells inner j b e in
      ap₂ (λ (xs : List Bool) k. slice_get xs k) (cells_record t fields form) (regroup (fields_before forms fields i) o j)
      ∙ field_at fields i (x, v) (o + j) b there deeper
    where
      regroup : (a b c : ℕ) → a + b + c ≡ a + (b + c)
      regroup a b c = omega arith

  -- ## Objects

  either_lone : (n : ℕ) (a b : Bool) → (n == 3) ≡ a → (n == 4) ≡ b → (a || b || false) ≡ true → slice_get (is_lone_object n) 0 ≡ Some true
  either_lone n true b one two h = let is : n ≡ 3 = grind (arith, nat_tests) in ap (λ k. slice_get (is_lone_object k) 0) is
  either_lone n false true one two h = let is : n ≡ 4 = grind (arith, nat_tests) in ap (λ k. slice_get (is_lone_object k) 0) is
  either_lone n false false one two h = absurd (cc)

  never_lone : (u : TypeId) (form : TypeForm) (a b : Bool) → form_of forms u ≡ Some form → (u.place == 3) ≡ a → (u.place == 4) ≡ b
      → (a || b || false) ≡ true → ⊥
  never_lone u form true b e one two h =
      let is : u.place ≡ 3 = grind (arith, nat_tests) in
      let none : form_of forms u ≡ None = predeclared_none forms is_built.predeclared u (omega (arith, is)) in
      cc
  never_lone u form false true e one two h =
      let is : u.place ≡ 4 = grind (arith, nat_tests) in
      let none : form_of forms u ≡ None = predeclared_none forms is_built.predeclared u (omega (arith, is)) in
      cc
  never_lone u form false false e one two h = cc

  -- an object's own cell is marked
  pub object_cell : (t : Option TypeId) → is_object_type forms t ≡ true → slice_get (cells_at t) 0 ≡ Some true
  object_cell None h = refl
  object_cell (Some u) h = by (form_of forms u) refl
    where
      is : (o : Option TypeForm) → form_of forms u ≡ o → (u.place == 3 || u.place == 4 || has_object_form o) ≡ true
      is o e = ap (λ (p : Option TypeForm). u.place == 3 || u.place == 4 || has_object_form p) (sym e) ∙ h

      by : (o : Option TypeForm) → form_of forms u ≡ o → slice_get (cells u) 0 ≡ Some true
      by None e =
          ap (λ (xs : List Bool). slice_get xs 0) (cells_formless u e)
          ∙ either_lone u.place (u.place == 3) (u.place == 4) refl refl (is None e)
      by (Some (Channel v)) e = ap (λ (xs : List Bool). slice_get xs 0) (cells_channel u v e)
      by (Some (Process n)) e = ap (λ (xs : List Bool). slice_get xs 0) (cells_process u n e)
      by (Some (Array over low high element)) e =
          absurd (never_lone u (Array over low high element) (u.place == 3) (u.place == 4) e refl refl (is (Some (Array over low high element)) e))
      by (Some (Record fields)) e = absurd (never_lone u (Record fields) (u.place == 3) (u.place == 4) e refl refl (is (Some (Record fields)) e))

  -- an object has no parts
  pub object_single : (u : TypeId) → is_object_type forms (Some u) ≡ true → has_parts (form_of forms u) ≡ false
  object_single u h = by (form_of forms u) refl
    where
      is : (o : Option TypeForm) → form_of forms u ≡ o → (u.place == 3 || u.place == 4 || has_object_form o) ≡ true
      is o e = ap (λ (p : Option TypeForm). u.place == 3 || u.place == 4 || has_object_form p) (sym e) ∙ h

      by : (o : Option TypeForm) → form_of forms u ≡ o → has_parts o ≡ false
      by None e = refl
      by (Some (Channel v)) e = refl
      by (Some (Process n)) e = refl
      by (Some (Array over low high element)) e =
          absurd (never_lone u (Array over low high element) (u.place == 3) (u.place == 4) e refl refl (is (Some (Array over low high element)) e))
      by (Some (Record fields)) e = absurd (never_lone u (Record fields) (u.place == 3) (u.place == 4) e refl refl (is (Some (Record fields)) e))

  -- an object that is a part of a type, so many cells behind its first
  pub record ObjectPart (t : TypeId) (k : ℕ) : Type 0 where
    pub path : List ℕ
    pub part : TypeId
    pub leads : IsPath forms (Some t) path (Some part) k
    pub object : is_object_type forms (Some part) ≡ true

  lone_part : (n k : ℕ) → slice_get (is_lone_object n) k ≡ Some true → (k ≡ 0) × ((n == 3 || n == 4 || false) ≡ true)
  lone_part zero zero h = absurd (cc)
  lone_part (suc zero) zero h = absurd (cc)
  lone_part (suc (suc zero)) zero h = absurd (cc)
  lone_part (suc (suc (suc zero))) zero h = (refl, refl)
  lone_part (suc (suc (suc (suc zero)))) zero h = (refl, refl)
  lone_part (suc (suc (suc (suc (suc zero))))) zero h = absurd (cc)
  lone_part (suc (suc (suc (suc (suc (suc n)))))) zero h = absurd (cc)
  lone_part n (suc k) h = absurd (cc)

  only_part : (b : Bool) (k : ℕ) → slice_get (b ∷ []) k ≡ Some true → (k ≡ 0) × (b ≡ true)
  only_part b zero h = (refl, some_same b true h)
    where
      some_same : (x y : Bool) → Some x ≡ Some y → x ≡ y
      some_same x y h = cc
  only_part b (suc k) h = absurd (cc)

  at_first : (t : TypeId) (k : ℕ) → k ≡ 0 → is_object_type forms (Some t) ≡ true → ObjectPart t k
  at_first t k is object =
      record { path = []; part = t; leads = subst (λ n. IsPath forms (Some t) [] (Some t) n) (sym is) (here (Some t)); object = object }

  in_field : (t : TypeId) (all : FieldList) → form_of forms t ≡ Some (Record all) → (fields : FieldList) (before : ℕ)
      → ((i : ℕ) (f : Text × TypeId) → slice_get fields i ≡ Some f → slice_get all (before + i) ≡ Some f)
      → ((i : ℕ) → fields_before forms all (before + i) ≡ fields_before forms all before + fields_before forms fields i)
      → ((i : ℕ) (f : Text × TypeId) (k : ℕ) → slice_get fields i ≡ Some f → slice_get (cells f.1) k ≡ Some true → ObjectPart f.1 k)
      → (k : ℕ) → slice_get (cells_of_fields fields) k ≡ Some true → ObjectPart t (fields_before forms all before + k)
  in_field t all form [] before there places each k h = absurd (cc)
  in_field t all form (f ∷ fields) before there places each k h =
      by (either (cells f.1) (cells_of_fields fields) k true h)
      (in_field t all form fields (before + 1) (λ i g e. ap (λ n. slice_get all n) (regroup before i) ∙ there (suc i) g e)
      (λ i. ap (λ n. fields_before forms all n) (regroup before i) ∙ places (suc i)
      ∙ further (fields_before forms all before) (fields_before forms (f ∷ fields) (suc i)) (cells_in forms f.1) (fields_before forms fields i)
      (fields_before forms all (before + 1)) (fields_next forms f fields i) next)
      (λ i g n e o. each (suc i) g n e o))
    where
      regroup : (a b : ℕ) → a + 1 + b ≡ a + suc b
      regroup a b = omega arith

      further : (a b c d e : ℕ) → b ≡ c + d → e ≡ a + c → a + b ≡ e + d
      further a b c d e one two = omega (arith, one, two)

      zero_more : before + 0 ≡ before
      zero_more = omega arith

      first : slice_get all before ≡ Some f
      first = ap (λ n. slice_get all n) (sym zero_more) ∙ there 0 f refl

      next : fields_before forms all (before + 1) ≡ fields_before forms all before + cells_in forms f.1
      next = places 1 ∙ ap (λ n. fields_before forms all before + n) (fields_next forms f fields 0 ∙ omega arith)

      by : Either (cells f.1) (cells_of_fields fields) k true
          → ((j : ℕ) → slice_get (cells_of_fields fields) j ≡ Some true → ObjectPart t (fields_before forms all (before + 1) + j))
          → ObjectPart t (fields_before forms all before + k)
      by (in_left e) rest =
          let inner = each 0 f k refl e in
          record {
            path = before ∷ inner.path;
            part = inner.part;
            leads = into_field t f.1 (Some inner.part) f.0 all before inner.path k form first inner.leads;
            object = inner.object;
          }
      by (in_right j place e) rest =
          let one : length (cells f.1) ≡ cells_in forms f.1 = cells_count f.1 in
          subst (λ n. ObjectPart t n) (omega (arith, next, place, one)) (rest j e)

  lone : (t : TypeId) (form : TypeForm) → form_of forms t ≡ Some form → has_object_form (Some form) ≡ true → is_object_type forms (Some t) ≡ true
  lone t form e h =
      ap (λ (o : Option TypeForm). t.place == 3 || t.place == 4 || has_object_form o) e ∙ last (t.place == 3) (t.place == 4) (has_object_form (Some form)) h
    where
      last : (a b c : Bool) → c ≡ true → (a || b || c) ≡ true
      last true b c h = refl
      last false true c h = refl
      last false false c h = h

  part_formed : (t : TypeId) (form : TypeForm) → form_of forms t ≡ Some form → IsBefore t.place form
      → ((u : TypeId) → u.place < t.place → (k : ℕ) → slice_get (cells u) k ≡ Some true → ObjectPart u k)
      → (k : ℕ) → slice_get (cells t) k ≡ Some true → ObjectPart t k
  part_formed t (Channel u) e below each k h =
      let at = only_part true k (ap (λ (xs : List Bool). slice_get xs k) (sym (cells_channel t u e)) ∙ h) in
      at_first t k at.0 (lone t (Channel u) e refl)
  part_formed t (Process n) e below each k h =
      let at = only_part true k (ap (λ (xs : List Bool). slice_get xs k) (sym (cells_process t n e)) ∙ h) in
      at_first t k at.0 (lone t (Process n) e refl)
  part_formed t (Array over low high element) e below each k h =
      let at = in_times (extent low high) (cells element) k true (ap (λ (xs : List Bool). slice_get xs k) (sym (cells_array t over element low high e)) ∙ h) in
      let inner = each element below at.j at.there in
      let count : length (cells element) ≡ cells_in forms element = cells_count element in
      let place : at.i * cells_in forms element + at.j ≡ k = ap (λ c. at.i * c + at.j) (sym count) ∙ sym at.place in
      subst (λ n. ObjectPart t n) place
      (record {
        path = at.i ∷ inner.path;
        part = inner.part;
        leads = into_element t over element (Some inner.part) low high at.i inner.path at.j e at.below inner.leads;
        object = inner.object;
      })
  part_formed t (Record fields) e below each k h =
      subst (λ n. ObjectPart t n) (none_before k)
      (in_field t fields e fields 0 (λ i f there. ap (λ n. slice_get fields n) (zero_before i) ∙ there)
      (λ i. ap (λ n. fields_before forms fields n) (zero_before i) ∙ sym (none_before (fields_before forms fields i)))
      (λ i f n there o. each f.1 (before_all fields t.place below i f there) n o) k
      (ap (λ (xs : List Bool). slice_get xs k) (sym (cells_record t fields e)) ∙ h))
    where
      none_before : (n : ℕ) → fields_before forms fields 0 + n ≡ n
      none_before n = omega arith

      zero_before : (n : ℕ) → 0 + n ≡ n
      zero_before n = omega arith

      before_all : (all : FieldList) (m : ℕ) → AreBefore m all → (i : ℕ) (f : Text × TypeId) → slice_get all i ≡ Some f → f.1.place < m
      before_all [] m b i f there = absurd (cc)
      before_all (g ∷ all) m b zero f there = let same : g ≡ f = cc in subst (λ (x : Text × TypeId). x.1.place < m) same b.0
      before_all (g ∷ all) m b (suc i) f there = before_all all m b.1 i f there

  -- a marked cell is that of an object
  pub marked_part : (t : TypeId) (k : ℕ) → slice_get (cells t) k ≡ Some true → ObjectPart t k
  marked_part =
      by_types forms is_built (λ t. (k : ℕ) → slice_get (cells t) k ≡ Some true → ObjectPart t k)
      (λ t e k h.
      let at = lone_part t.place k (ap (λ (xs : List Bool). slice_get xs k) (sym (cells_formless t e)) ∙ h) in
      at_first t k at.0 (ap (λ (o : Option TypeForm). t.place == 3 || t.place == 4 || has_object_form o) e ∙ at.1))
      part_formed
