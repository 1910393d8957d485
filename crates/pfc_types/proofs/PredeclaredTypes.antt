-- The predeclared types: the first places of a table hold what they hold in the table that has no others.
use Rattle.std.proofs.Common.{◌≡◌, ℕ, zero, suc, ◌<◌, true, false, ◌||◌, List, [], ◌∷◌, ◌++◌, length, get_or, fold, Some, nat_lt, refl, ap, ◌∙◌, arith}
use Rattle.std.proofs.Common.{length-append, lit<}
use Rattle.std.proofs.lemmas.Bool.Decides.{nat_tests}
use Rattle.pfc_types.specs.Types.{Forms, is_simple, is_object, predeclared_forms, held_next, all_held, one_cell}
use Rattle.pfc_types.specs.Faulty.{BeginsPredeclared}
use Rattle.pfc_types.specs.declared.types.TypeId.{TypeId}
use Rattle.pfc_types.specs.declared.table.Held.{Held}
use Rattle.pfc_types.specs.rules.Kinds.{has_object}

read-push : (xs : List Held) (x d : Held) (n : ℕ) → n < length xs → get_or (xs ++ x ∷ []) n d ≡ get_or xs n d
read-push [] x d n h = absurd (omega (arith, h))
read-push (y ∷ xs) x d zero h = refl
read-push (y ∷ xs) x d (suc n) h = read-push xs x d n (omega (arith, h))

-- what stands already is read as before, whatever comes behind
kept : (before : List Held) (rest : Forms) (d : Held) (n : ℕ) → n < length before →
    get_or (fold (λ before form. before ++ held_next before form ∷ []) before rest) n d ≡ get_or before n d
kept before [] d n h = refl
kept before (form ∷ rest) d n h =
    kept (before ++ held_next before form ∷ []) rest d n (omega (arith, h, length-append before (held_next before form ∷ [])))
    ∙ read-push before (held_next before form) d n h

below-three : (n : ℕ) → nat_lt n 3 ≡ true → n < 3
below-three n h = grind (arith, nat_tests)

-- a simple type is no object type
pub simple_no_object : (forms : Forms) → BeginsPredeclared forms → (t : TypeId) → is_simple t ≡ true → has_object forms (Some t) ≡ false
simple_no_object forms b t h = ap (λ f. is_object f t) b.splits ∙ at t.place (below-three t.place h)
  where
    at : (n : ℕ) → n < 3 → is_object (predeclared_forms ++ b.more) (record { place = n }) ≡ false
    at zero h = ap (λ held. (held.shared || held.conditions) || nat_lt 0 held.processes) (kept (all_held predeclared_forms) b.more one_cell 0 (lit< tt))
    at (suc zero) h = ap (λ held. (held.shared || held.conditions) || nat_lt 0 held.processes) (kept (all_held predeclared_forms) b.more one_cell 1 (lit< tt))
    at (suc (suc zero)) h = ap (λ held. (held.shared || held.conditions) || nat_lt 0 held.processes)
        (kept (all_held predeclared_forms) b.more one_cell 2 (lit< tt))
    at (suc (suc (suc n))) h = absurd (omega (arith, h))
