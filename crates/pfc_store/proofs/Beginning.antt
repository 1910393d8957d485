-- The first value of a type, by what it is made of.
use Rattle.std.proofs.Common.{◌≡◌, ℕ, zero, suc, ◌+◌, ◌<◌, ◌≤◌, List, [], ◌∷◌, ◌++◌, length, map, take, drop, get_or, replicate, refl, sym, ap, ap₂, ◌∙◌}
use Rattle.std.proofs.Common.{add-one, arith}
use Rattle.std.proofs.Math.Seq.{take-suc}
use Rattle.std.proofs.lemmas.List.{append_assoc, map-append, length-map, length-take-le, take_more, get_or-map, drop-append-le}
use Rattle.pfc_types.specs.Fields.{FieldList}
use Rattle.pfc_types.specs.declared.types.TypeId.{TypeId}
use Rattle.pfc_types.specs.declared.scope.Meaning.{Meaning}
use Rattle.pfc_semantics.specs.Values.{Value, copies, more_values, values_from}
use Rattle.pfc_semantics.specs.Objects.{first_of, first_fields}
use Rattle.pfc_store.specs.declared.values.Value.{Value as Held}
use Rattle.pfc_store.specs.Views.{value_view, values_view}

-- the elements of an array, and the fields of a record, one behind the other
pub copies_listed : (n : ℕ) (v : Value) → copies n v ≡ values_from (replicate n v)
copies_listed zero v = refl
copies_listed (suc n) v = ap (λ vs. more_values v vs) (copies_listed n v)

pub fields_listed : (before : List Value) (fields : FieldList) → first_fields before fields ≡ values_from (map (λ f. first_of before f.1) fields)
fields_listed before [] = refl
fields_listed before (f ∷ fields) = ap (λ vs. more_values (first_of before f.1) vs) (fields_listed before fields)

-- one field more
pub field_next :
    (before : List Value) (fields : FieldList) (i : ℕ) (t : TypeId) (vs : List Held) (v : Held)
    → i < length fields → ((d : List ℕ × TypeId) → t ≡ (get_or fields i d).1)
    → values_view vs ≡ map (λ f. first_of before f.1) (take i fields) → value_view v ≡ first_of before t
    → values_view (vs ++ v ∷ []) ≡ map (λ f. first_of before f.1) (take (i + 1) fields)
field_next before fields i t vs v h read so one =
    let d : List ℕ × TypeId = ([], t) in
    map-append value_view vs (v ∷ [])
    ∙ ap₂ (λ xs x. xs ++ x ∷ []) so (one ∙ ap (λ u. first_of before u) (read d))
    ∙ sym (map-append (λ (f : List ℕ × TypeId). first_of before f.1) (take i fields) (get_or fields i d ∷ []))
    ∙ ap (map (λ (f : List ℕ × TypeId). first_of before f.1)) (sym (take-suc fields i d h))
    ∙ ap (λ n. map (λ (f : List ℕ × TypeId). first_of before f.1) (take n fields)) (sym (add-one i))

-- one place of a layout more
pub values_next :
    (before : List Value) (f : Meaning → Value) (layout : List Meaning) (n i : ℕ) (d : Meaning) → n ≤ i → i < length layout
    → (before ++ drop n (take i (map f layout))) ++ f (get_or layout i d) ∷ [] ≡ before ++ drop n (take (i + 1) (map f layout))
values_next before f layout n i d from below =
    append_assoc before (drop n (take i (map f layout))) (f (get_or layout i d) ∷ [])
    ∙ ap (λ l. before ++ l)
    (sym (drop-append-le n (take i (map f layout)) (f (get_or layout i d) ∷ [])
    (omega (arith, from, below, length-take-le i (map f layout) (omega (arith, below, length-map layout f)))))
    ∙ ap (λ x. drop n (take i (map f layout) ++ x ∷ [])) (sym (get_or-map f layout i d (f d) below))
    ∙ ap (drop n) (sym (take_more (map f layout) i (f d) (omega (arith, below, length-map layout f)))))
