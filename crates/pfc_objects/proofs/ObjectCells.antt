-- Which cells of a variable of each type hold an object.
use Rattle.std.proofs.Common.{◌≡◌, ℕ, zero, suc, ◌+◌, ◌<◌, ◌≤◌, Bool, true, false, nat_lt, List, [], ◌∷◌, ◌++◌, length, take, drop, get_or, slice_get, min, ◌⊎◌}
use Rattle.std.proofs.Common.{inl, inr, Some, None, refl, sym, ap, ap₂, ◌∙◌, arith}
use Rattle.std.specs.Prelude.{◌||◌}
use Rattle.std.proofs.lemmas.Bool.Decides.{nat_tests}
use Rattle.std.proofs.lemmas.List.{append_assoc, append-nil, drop_more, get_or_past, length-take-le, drop_all}
use Rattle.std.proofs.lemmas.Option.{slice_get-get_or}
use Rattle.pfc_types.specs.Types.{Forms, form_of, held_of, all_held, held_next, predeclared_held, one_cell}
use Rattle.pfc_types.specs.Fields.{FieldList}
use Rattle.pfc_types.specs.declared.table.Held.{Held}
use Rattle.pfc_types.specs.declared.types.TypeId.{TypeId}
use Rattle.pfc_types.specs.declared.types.TypeForm.{TypeForm}
use Rattle.pfc_types.specs.declared.scope.Meaning.{Meaning}
use Rattle.pfc_types.specs.declared.scope.Meaning.TheVariants.{Variable, Constant, Named, Sub, Module, Process, Entry, Predeclared, Faulty}
use Rattle.pfc_semantics.proofs.Tables.{built_length, built_at, built_below, built_form}
use Rattle.pfc_semantics.specs.Layouts.{Layout}
use Rattle.pfc_store.proofs.Living.{unlike}
use Rattle.pfc_code.specs.declared.images.Object.{Object}
use Rattle.pfc_translation.specs.Objects.{cells_before, times, object_fields, object_form, predeclared_objects, object_next, all_objects, laid_objects}
use Rattle.pfc_translation.specs.Objects.{objects_from}
use Rattle.pfc_objects.specs.Cells.{laid_object, object_in}

-- ## A type, and its parts

pub cells_of_form :
    (forms : Forms) (t : TypeId) (form : TypeForm) → form_of forms t ≡ Some form
    → cells_before (all_objects forms) t ≡ object_form (all_objects (take t.place forms)) form
cells_of_form forms t form e = built_form (List Bool) object_next forms t form (false ∷ []) e

pub part_before :
    (forms : Forms) (whole t : TypeId) → t.place < whole.place → whole.place ≤ length forms
    → cells_before (all_objects forms) t ≡ cells_before (all_objects (take whole.place forms)) t
part_before forms whole t below within = sym (built_below (List Bool) object_next forms whole.place t.place (false ∷ []) below within)

pub part_past :
    (forms : Forms) (whole t : TypeId) → whole.place ≤ t.place → whole.place ≤ length forms
    → cells_before (all_objects (take whole.place forms)) t ≡ false ∷ []
part_past forms whole t past within =
    get_or_past (all_objects (take whole.place forms)) t.place (false ∷ [])
    (omega (arith, past, built_length (List Bool) object_next [] (take whole.place forms), length-take-le whole.place forms within))

-- a type that is made of nothing: what it holds tells whether it is an object
abbrev pub by_held : Held → Bool
by_held held = held.shared || held.conditions

predeclared : (n : ℕ) → get_or predeclared_objects n false ≡ by_held (predeclared_held n)
predeclared zero = refl
predeclared (suc zero) = refl
predeclared (suc (suc zero)) = refl
predeclared (suc (suc (suc zero))) = refl
predeclared (suc (suc (suc (suc zero)))) = refl
predeclared (suc (suc (suc (suc (suc zero))))) = refl
predeclared (suc (suc (suc (suc (suc (suc n)))))) =
    let k : ℕ = suc (suc (suc (suc (suc (suc n))))) in
    sym (ap₂ (λ (condition semaphore : Bool). semaphore || condition) (unlike k 4 (λ e. absurd (omega (arith, e))))
    (unlike k 3 (λ e. absurd (omega (arith, e)))))

pub simple_cells : (forms : Forms) (t : TypeId) → form_of forms t ≡ None → cells_before (all_objects forms) t ≡ by_held (held_of forms t) ∷ []
simple_cells forms t e =
    elim (nat_lt t.place (length forms)) as (λ b. nat_lt t.place (length forms) ≡ b → cells_before (all_objects forms) t ≡ by_held (held_of forms t) ∷ []) [
      | true ↦ λ h.
          let below : t.place < length forms = grind (arith, nat_tests) in
          let there : slice_get forms t.place ≡ Some None = slice_get-get_or forms t.place None below ∙ ap Some e in
          let count : length (take t.place forms) ≡ t.place = length-take-le t.place forms (omega (arith, below)) in
          let objects : length (all_objects (take t.place forms)) ≡ t.place =
          built_length (List Bool) object_next [] (take t.place forms) ∙ omega (arith, count) in
          let helds : length (all_held (take t.place forms)) ≡ t.place = built_length Held held_next [] (take t.place forms) ∙ omega (arith, count) in
          built_at (List Bool) object_next forms t.place None (false ∷ []) there
          ∙ ap (λ (n : ℕ). get_or predeclared_objects n false ∷ []) objects
          ∙ ap (λ (b : Bool). b ∷ [])
          (predeclared t.place ∙ ap by_held (ap predeclared_held (sym helds) ∙ sym (built_at Held held_next forms t.place None one_cell there)))
      | false ↦ λ h.
          let past : length forms ≤ t.place = grind (arith, nat_tests) in
          get_or_past (all_objects forms) t.place (false ∷ []) (omega (arith, past, built_length (List Bool) object_next [] forms))
          ∙ ap (λ (held : Held). by_held held ∷ [])
          (sym (get_or_past (all_held forms) t.place one_cell (omega (arith, past, built_length Held held_next [] forms))))
    ] refl

-- ## One behind the other

-- some more were added, and so many are left
more_cells : (old now one rest all : List Bool) → now ≡ old ++ one → one ++ rest ≡ all → now ++ rest ≡ old ++ all
more_cells old now one rest all grown split = ap (λ (xs : List Bool). xs ++ rest) grown ∙ append_assoc old one rest ∙ ap (λ (xs : List Bool). old ++ xs) split

none_left : (old all : List Bool) → all ≡ [] → old ≡ old ++ all
none_left old all none = sym (ap (λ (xs : List Bool). old ++ xs) none ∙ append-nil old)

pub times_next : (old now cells : List Bool) (left n : ℕ) → left ≡ suc n → now ≡ old ++ cells → now ++ times n cells ≡ old ++ times left cells
times_next old now cells left n count grown = more_cells old now cells (times n cells) (times left cells) grown (sym (ap (λ (k : ℕ). times k cells) count))

pub times_done : (old cells : List Bool) (left : ℕ) → left ≡ 0 → old ≡ old ++ times left cells
times_done old cells left none = none_left old (times left cells) (ap (λ (k : ℕ). times k cells) none)

pub fields_next :
    (old now : List Bool) (before : List (List Bool)) (fields : FieldList) (i : ℕ) (t : TypeId)
    → i < length fields → ((d : List ℕ × TypeId) → t ≡ (get_or fields i d).1) → now ≡ old ++ cells_before before t
    → now ++ object_fields before (drop (i + 1) fields) ≡ old ++ object_fields before (drop i fields)
fields_next old now before fields i t within is grown =
    let d : List ℕ × TypeId = ([], t) in
    let rest : FieldList = drop (i + 1) fields in
    more_cells old now (cells_before before t) (object_fields before rest) (object_fields before (drop i fields)) grown
    (ap (λ (u : TypeId). cells_before before u ++ object_fields before rest) (is d) ∙ ap (object_fields before) (sym (drop_more fields i d within)))

pub fields_done : (old : List Bool) (before : List (List Bool)) (fields : FieldList) → fields ≡ [] → old ≡ old ++ object_fields before fields
fields_done old before fields none = none_left old (object_fields before fields) (ap (object_fields before) none)

-- a place of a layout, and those behind it
pub laid_split : (all : List (List Bool)) (m : Meaning) (layout : Layout) → laid_object all m ++ laid_objects all layout ≡ laid_objects all (m ∷ layout)
laid_split all (Variable t reference) layout = refl
laid_split all (Constant t n) layout = refl
laid_split all (Named t) layout = refl
laid_split all (Sub n) layout = refl
laid_split all (Module n) layout = refl
laid_split all (Process n) layout = refl
laid_split all (Entry n) layout = refl
laid_split all (Predeclared n) layout = refl
laid_split all Faulty layout = refl

pub laid_next :
    (old now : List Bool) (all : List (List Bool)) (m : Meaning) (layout : Layout) → now ≡ old ++ laid_object all m
    → now ++ laid_objects all layout ≡ old ++ laid_objects all (m ∷ layout)
laid_next old now all m layout grown =
    more_cells old now (laid_object all m) (laid_objects all layout) (laid_objects all (m ∷ layout)) grown (laid_split all m layout)

-- ## Objects

-- a cell, and those behind it
pub object_split :
    (is_object : Bool) (cell number : ℕ) (cells : List Bool) (numbers : List ℕ)
    → object_in is_object cell number ++ objects_from (cell + 1) cells numbers ≡ objects_from cell (is_object ∷ cells) (number ∷ numbers)
object_split true cell number cells numbers = refl
object_split false cell number cells numbers = refl

pub objects_next :
    (old now : List Object) (cells : List Bool) (numbers : List ℕ) (k : ℕ) (b : Bool) (n : ℕ)
    → k < length cells → k < length numbers → b ≡ get_or cells k false → n ≡ get_or numbers k 0 → now ≡ old ++ object_in b k n
    → now ++ objects_from (k + 1) (drop (k + 1) cells) (drop (k + 1) numbers) ≡ old ++ objects_from k (drop k cells) (drop k numbers)
objects_next old now cells numbers k b n below below_too is_b is_n grown =
    let bs : List Bool = drop (k + 1) cells in
    let ns : List ℕ = drop (k + 1) numbers in
    ap (λ (xs : List Object). xs ++ objects_from (k + 1) bs ns) grown
    ∙ append_assoc old (object_in b k n) (objects_from (k + 1) bs ns)
    ∙ ap (λ (xs : List Object). old ++ xs)
    (object_split b k n bs ns
    ∙ ap₂ (λ (x : Bool) (y : ℕ). objects_from k (x ∷ bs) (y ∷ ns)) is_b is_n
    ∙ ap₂ (λ (xs : List Bool) (ys : List ℕ). objects_from k xs ys) (sym (drop_more cells k false below)) (sym (drop_more numbers k 0 below_too)))

no_numbers : (cell : ℕ) (cells : List Bool) → objects_from cell cells [] ≡ []
no_numbers cell [] = refl
no_numbers cell (b ∷ cells) = refl

-- behind the shorter of the two
pub one_over :
    (cells : List Bool) (numbers : List ℕ) (k : ℕ) → min (length cells) (length numbers) ≤ k
    → (length (drop k cells) ≡ 0) ⊎ (length (drop k numbers) ≡ 0)
one_over cells numbers k over = by (nat_lt k (length cells)) refl
  where
    by : (b : Bool) → nat_lt k (length cells) ≡ b → (length (drop k cells) ≡ 0) ⊎ (length (drop k numbers) ≡ 0)
    by true h =
        let below : k < length cells = grind (arith, nat_tests) in
        inr (ap length (drop_all k numbers (omega (arith, over, below))))
    by false h =
        let past : length cells ≤ k = grind (arith, nat_tests) in
        inl (ap length (drop_all k cells past))

-- where one of the two has no more
pub none_behind : (cell : ℕ) (cells : List Bool) (numbers : List ℕ) → (length cells ≡ 0) ⊎ (length numbers ≡ 0) → objects_from cell cells numbers ≡ []
none_behind cell [] numbers over = refl
none_behind cell (b ∷ cells) [] over = refl
none_behind cell (b ∷ cells) (n ∷ numbers) (inl e) = absurd (omega (arith, e))
none_behind cell (b ∷ cells) (n ∷ numbers) (inr e) = absurd (omega (arith, e))
