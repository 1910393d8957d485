-- Tables by types: what stands there for a type that is made of nothing, and proofs from the parts of types.
use Rattle.std.proofs.Common.{◌≡◌, ℕ, zero, suc, ◌<◌, ◌≤◌, Bool, true, false, List, [], ◌++◌, length, take, get_or, nat_lt, Option, Some, None, refl, sym, ap}
use Rattle.std.proofs.Common.{◌∙◌, arith, length-append}
use Rattle.std.proofs.lemmas.Bool.Decides.{nat_tests}
use Rattle.std.proofs.lemmas.List.{get_or_past, length-take-le}
use Rattle.std.proofs.lemmas.Option.{slice_get-get_or}
use Rattle.pfc_types.specs.Types.{Forms, form_of, predeclared_forms}
use Rattle.pfc_types.specs.Faulty.{BeginsPredeclared}
use Rattle.pfc_types.specs.declared.types.TypeId.{TypeId}
use Rattle.pfc_types.specs.declared.types.TypeForm.{TypeForm}
use Rattle.pfc_semantics.proofs.Tables.{built, built_at, built_length}
use Rattle.pfc_type_laws.specs.Tables.{IsBefore, IsBuiltUp}

-- ## By the parts of types

module _ (forms : Forms) (is_built : IsBuiltUp forms) (P : TypeId → Type 0) (formless : (t : TypeId) → form_of forms t ≡ None → P t)
    (formed : (t : TypeId) (form : TypeForm) → form_of forms t ≡ Some form → IsBefore t.place form → ((u : TypeId) → u.place < t.place → P u) → P t) where
  -- of the types before a place
  types_below : (n : ℕ) (t : TypeId) → t.place < n → P t
  types_below zero t h = absurd (omega (arith, h))
  types_below (suc n) t h = by (form_of forms t) refl (λ u k. types_below n u (omega (arith, h, k)))
    where
      by : (o : Option TypeForm) → form_of forms t ≡ o → ((u : TypeId) → u.place < t.place → P u) → P t
      by None e each = formless t e
      by (Some form) e each = formed t form e (is_built.behind t form e) each

  -- what is true of types that are made of nothing, and of others where it is of their parts, is true of all
  pub by_types : (t : TypeId) → P t
  by_types t = types_below (suc t.place) t (omega arith)

-- ## Types that are made of nothing

-- six stand first
pub six_types : (forms : Forms) → BeginsPredeclared forms → 6 ≤ length forms
six_types forms b = omega (arith, ap (λ (l : Forms). length l) b.splits, length-append predeclared_forms b.more)

-- what a table has for a type that is made of nothing goes by its place
pub formless_at :
    (A : Type 0) (next : List A → Option TypeForm → A) (d : A) (f : ℕ → A) → ((before : List A) → next before None ≡ f (length before))
    → ((n : ℕ) → 6 ≤ n → f n ≡ d) → (forms : Forms) → BeginsPredeclared forms → (t : TypeId) → form_of forms t ≡ None
    → get_or (built next [] forms) t.place d ≡ f t.place
formless_at A next d f by_place past forms begins t e = by (nat_lt t.place (length forms)) refl
  where
    by : (b : Bool) → nat_lt t.place (length forms) ≡ b → get_or (built next [] forms) t.place d ≡ f t.place
    by true h =
        let below : t.place < length forms = grind (arith, nat_tests) in
        let before : List A = built next [] (take t.place forms) in
        let count : length before ≡ t.place =
        built_length A next [] (take t.place forms) ∙ omega (arith, length-take-le t.place forms (omega (arith, below))) in
        built_at A next forms t.place None d (slice_get-get_or forms t.place None below ∙ ap Some e) ∙ by_place before ∙ ap f count
    by false h =
        let beyond : length forms ≤ t.place = grind (arith, nat_tests) in
        get_or_past (built next [] forms) t.place d (omega (arith, beyond, built_length A next [] forms))
        ∙ sym (past t.place (omega (arith, beyond, six_types forms begins)))

-- the predeclared types are made of nothing
pub predeclared_none : (forms : Forms) → BeginsPredeclared forms → (t : TypeId) → t.place < 6 → form_of forms t ≡ None
predeclared_none forms b t h = ap (λ (f : Forms). form_of f t) b.splits ∙ at t.place h
  where
    at : (n : ℕ) → n < 6 → get_or (predeclared_forms ++ b.more) n None ≡ None
    at zero h = refl
    at (suc zero) h = refl
    at (suc (suc zero)) h = refl
    at (suc (suc (suc zero))) h = refl
    at (suc (suc (suc (suc zero)))) h = refl
    at (suc (suc (suc (suc (suc zero))))) h = refl
    at (suc (suc (suc (suc (suc (suc n)))))) h = absurd (omega (arith, h))
