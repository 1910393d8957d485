-- A variable whose type holds no condition has none among its parts.
use Rattle.std.proofs.Common.{◌≡◌, ℕ, zero, suc, ◌<◌, ◌≤◌, ◌==◌, ◌||◌, Bool, true, false, List, [], ◌∷◌, fold, take, Option, Some, None, refl, sym, ap, ap₂}
use Rattle.std.proofs.Common.{◌∙◌, subst, arith}
use Rattle.std.proofs.lemmas.Bool.Decides.{nat_tests}
use Rattle.std.specs.List.{slice_get}
use Rattle.pfc_tree.specs.Symbols.{Text}
use Rattle.pfc_types.specs.Types.{Forms, condition, form_of, held_of, held_before, held_with, held_next, all_held, nothing_held, one_cell, predeclared_held}
use Rattle.pfc_types.specs.Fields.{FieldList}
use Rattle.pfc_types.specs.declared.table.Held.{Held}
use Rattle.pfc_types.specs.declared.types.TypeId.{TypeId}
use Rattle.pfc_types.specs.declared.types.TypeForm.{TypeForm}
use Rattle.pfc_types.specs.declared.types.TypeForm.TheVariants.{Array, Record}
use Rattle.pfc_semantics.proofs.Tables.{built_form, built_part}
use Rattle.pfc_cells.specs.Shapes.{IsPath, here, into_element, into_field}
use Rattle.pfc_type_laws.specs.Tables.{AreBefore, IsBuiltUp}
use Rattle.pfc_object_laws.proofs.Tables.{formless_at, predeclared_none}

past_predeclared : (n : ℕ) → 6 ≤ n → predeclared_held n ≡ one_cell
past_predeclared n h =
    let four : (n == 4) ≡ false = grind (arith, nat_tests, h) in
    let three : (n == 3) ≡ false = grind (arith, nat_tests, h) in
    ap₂ (λ (a b : Bool). let held : Held = record { cells = 1; processes = 0; conditions = a; shared = b } in held) four three

neither : (a b : Bool) → (a || b) ≡ false → (a ≡ false) × (b ≡ false)
neither false false e = (refl, refl)
neither false true e = absurd (cc)
neither true b e = absurd (cc)

-- the sum of some fields holds no condition: none of them does
no_field_holds : (before : List Held) (fields : FieldList) (sum : Held)
    → (fold (λ held f. held_with held (held_before before f.1)) sum fields).conditions ≡ false
    → (sum.conditions ≡ false)
    × ((i : ℕ) (f : Text × TypeId) → slice_get fields i ≡ Some f → (held_before before f.1).conditions ≡ false)
no_field_holds before [] sum e = (e, λ i f there. absurd (cc))
no_field_holds before (g ∷ fields) sum e =
    let rest = no_field_holds before fields (held_with sum (held_before before g.1)) e in
    let apart = neither sum.conditions (held_before before g.1).conditions rest.0 in (apart.0, at apart.1 rest.1)
  where
    at : (held_before before g.1).conditions ≡ false
        → ((i : ℕ) (f : Text × TypeId) → slice_get fields i ≡ Some f → (held_before before f.1).conditions ≡ false)
        → (i : ℕ) (f : Text × TypeId) → slice_get (g ∷ fields) i ≡ Some f → (held_before before f.1).conditions ≡ false
    at one rest zero f there = let same : g ≡ f = cc in subst (λ (x : Text × TypeId). (held_before before x.1).conditions ≡ false) same one
    at one rest (suc i) f there = rest i f there

before_at : (n : ℕ) (fields : FieldList) (i : ℕ) (f : Text × TypeId) → AreBefore n fields → slice_get fields i ≡ Some f → f.1.place < n
before_at n [] i f below there = absurd (cc)
before_at n (g ∷ fields) zero f below there =
    let same : g ≡ f = cc in subst (λ (x : Text × TypeId). x.1.place < n) same below.0
before_at n (g ∷ fields) (suc i) f below there = before_at n fields i f below.1 there

module _ (forms : Forms) (is_built : IsBuiltUp forms) where
  -- whether a condition is held
  abbrev holds : Option TypeId → Bool
  holds None = false
  holds (Some t) = (held_of forms t).conditions

  condition_holds : holds (Some condition) ≡ true
  condition_holds =
      ap (λ (h : Held). h.conditions)
      (formless_at Held held_next one_cell predeclared_held (λ before. refl) past_predeclared forms is_built.predeclared condition
      (predeclared_none forms is_built.predeclared condition (omega arith)))

  formed : (t : TypeId) (form : TypeForm) → form_of forms t ≡ Some form → held_of forms t ≡ held_next (all_held (take t.place forms)) (Some form)
  formed t form e = built_form Held held_next forms t form one_cell e

  part_held : (t : TypeId) (form : TypeForm) (u : TypeId) → form_of forms t ≡ Some form → u.place < t.place
      → held_before (all_held (take t.place forms)) u ≡ held_of forms u
  part_held t form u e below = built_part Held held_next forms t form u one_cell e below

  none_on_path : {t u : Option TypeId} {path : List ℕ} {o : ℕ} → IsPath forms t path u o → holds t ≡ false → u ≡ Some condition → ⊥
  none_on_path (here t) none is = (let both : true ≡ false = sym condition_holds ∙ (ap holds (sym is) ∙ none) in cc)
  none_on_path (into_element t over element u low high i path o form below inner) none is =
      none_on_path inner
      (ap (λ (h : Held). h.conditions) (sym (part_held t (Array over low high element) element form (is_built.behind t (Array over low high element) form)))
      ∙ (ap (λ (h : Held). h.conditions) (sym (formed t (Array over low high element) form)) ∙ none)) is
  none_on_path (into_field t v u x fields i path o form there inner) none is =
      none_on_path inner
      (ap (λ (h : Held). h.conditions)
      (sym (part_held t (Record fields) v form (before_at t.place fields i (x, v) (is_built.behind t (Record fields) form) there)))
      ∙ (no_field_holds (all_held (take t.place forms)) fields nothing_held (ap (λ (h : Held). h.conditions) (sym (formed t (Record fields) form)) ∙ none)).1
      i (x, v) there) is

  pub no_condition_on_path : (t : TypeId) (path : List ℕ) (o : ℕ) → (held_of forms t).conditions ≡ false → IsPath forms (Some t) path (Some condition) o → ⊥
  no_condition_on_path t path o none leads = none_on_path leads none refl
