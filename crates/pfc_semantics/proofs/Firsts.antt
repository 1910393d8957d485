-- The first value of a type, by what it is made of.
use Rattle.std.proofs.Common.{◌≡◌, ℕ, zero, suc, ◌+◌, ◌<◌, ◌≤◌, ℤ, pos, List, [], ◌∷◌, ◌++◌, length, map, take, get_or, replicate, Some, None, refl, sym, ap}
use Rattle.std.proofs.Common.{ap₂, ◌∙◌, arith, length-take}
use Rattle.std.proofs.Math.Seq.{take-suc}
use Rattle.std.proofs.lemmas.List.{get_or_past, map-append}
use Rattle.pfc_tree.specs.Symbols.{Text}
use Rattle.pfc_types.specs.Types.{Forms, form_of}
use Rattle.pfc_types.specs.Fields.{FieldList}
use Rattle.pfc_types.specs.declared.types.TypeId.{TypeId}
use Rattle.pfc_types.specs.declared.types.TypeForm.{TypeForm}
use Rattle.pfc_semantics.specs.Values.{Value, ordinal, copies}
use Rattle.pfc_semantics.specs.Objects.{first_of, first_fields, first_form, first_next, all_first, initial}
use Rattle.std.proofs.Common.{Vec, Global, add-one}
use Rattle.pfc_types.specs.declared.types.TypeForm.TheVariants.{Channel, Process}
use Rattle.pfc_semantics.specs.declared.values.Value.{Value as Held, fold-roll-Value}
use Rattle.pfc_semantics.specs.declared.values.Value.TheVariants.{Number, List as Listed, rolls-Number, rolls-List}
use Rattle.pfc_semantics.specs.Seen.{SeenValue, more_seen, number, list, seen, seen_parts, list_seen, value_view, value_step, part_views}
use Rattle.pfc_semantics.proofs.Tables.{built_form, built_none, built_below, built_length}

-- of a type that is made of something
pub initial_form : (forms : Forms) (t : TypeId) (form : TypeForm) → form_of forms t ≡ Some form →
    initial forms t ≡ first_form (all_first (take t.place forms)) form
initial_form forms t form e = built_form Value first_next forms t form (ordinal (pos 0)) e

-- of one that is made of nothing
pub initial_none : (forms : Forms) (t : TypeId) → form_of forms t ≡ None → initial forms t ≡ ordinal (pos 0)
initial_none forms t e = built_none Value first_next forms t.place (ordinal (pos 0)) (λ (v : Value). v ≡ ordinal (pos 0)) e (λ before. refl) refl

-- a part has its entry before the whole, or none
pub part_before : (forms : Forms) (whole t : TypeId) → t.place < whole.place → whole.place ≤ length forms →
    initial forms t ≡ first_of (all_first (take whole.place forms)) t
part_before forms whole t below within = sym (built_below Value first_next forms whole.place t.place (ordinal (pos 0)) below within)

pub part_past : (forms : Forms) (whole t : TypeId) → whole.place ≤ t.place → first_of (all_first (take whole.place forms)) t ≡ ordinal (pos 0)
part_past forms whole t past =
    get_or_past (all_first (take whole.place forms)) t.place (ordinal (pos 0))
    (omega (arith, past, built_length Value first_next [] (take whole.place forms), length-take whole.place forms))

-- the elements of an array, and the fields of a record, as they are seen
pub copies_seen : (n : ℕ) (v : Value) → seen_parts (copies n v) ≡ list_seen (replicate n (seen v))
copies_seen zero v = refl
copies_seen (suc n) v = ap (λ vs. more_seen (seen v) vs) (copies_seen n v)

pub fields_seen : (before : List Value) (fields : FieldList) →
    seen_parts (first_fields before fields) ≡ list_seen (map (λ f. seen (first_of before f.1)) fields)
fields_seen before [] = refl
fields_seen before (f ∷ fields) = ap (λ vs. more_seen (seen (first_of before f.1)) vs) (fields_seen before fields)

-- ## How the code's values are seen

pub number_view : (n : ℤ) → value_view (Number n) ≡ number n
number_view n = ap value_view (sym (rolls-Number n)) ∙ fold-roll-Value SeenValue value_step _

pub list_view : (vs : Vec Held Global) → value_view (Listed vs) ≡ list (part_views vs.items)
list_view vs = ap value_view (sym (rolls-List vs)) ∙ fold-roll-Value SeenValue value_step _

-- one field more
pub fields_next :
    (before : List Value) (fields : FieldList) (i : ℕ) (t : TypeId) (vs : List Held) (v : Held)
    → i < length fields → ((d : Text × TypeId) → t ≡ (get_or fields i d).1)
    → map value_view vs ≡ map (λ f. seen (first_of before f.1)) (take i fields) → value_view v ≡ seen (first_of before t)
    → map value_view (vs ++ v ∷ []) ≡ map (λ f. seen (first_of before f.1)) (take (i + 1) fields)
fields_next before fields i t vs v h read so one =
    let d : Text × TypeId = ([], t) in
    map-append value_view vs (v ∷ [])
    ∙ ap₂ (λ xs x. xs ++ x ∷ []) so (one ∙ ap (λ u. seen (first_of before u)) (read d))
    ∙ sym (map-append (λ (f : Text × TypeId). seen (first_of before f.1)) (take i fields) (get_or fields i d ∷ []))
    ∙ ap (map (λ (f : Text × TypeId). seen (first_of before f.1))) (sym (take-suc fields i d h))
    ∙ ap (λ n. map (λ (f : Text × TypeId). seen (first_of before f.1)) (take n fields)) (sym (add-one i))

-- a type that is none of many parts begins at 0
pub initial_channel : (forms : Forms) (t carried : TypeId) → form_of forms t ≡ Some (Channel carried) → initial forms t ≡ ordinal (pos 0)
initial_channel forms t carried e = initial_form forms t (Channel carried) e

pub initial_process : (forms : Forms) (t : TypeId) (n : ℕ) → form_of forms t ≡ Some (Process n) → initial forms t ≡ ordinal (pos 0)
initial_process forms t n e = initial_form forms t (Process n) e
