-- Arguments, from a place on.
use Rattle.std.proofs.Common.{◌≡◌, ℕ, ◌+◌, ◌<◌, ◌≤◌, List, ◌∷◌, length, get_or, drop, sym, ap, ◌∙◌, add-one}
use Rattle.std.proofs.Math.Seq.{drop-cons}
use Rattle.std.proofs.Math.ListN.{drop_of_length-le}
use Rattle.pfc_tree.specs.declared.tree.Actual.{Actual}
use Rattle.pfc_tree.specs.trees.Exprs.{no_actuals, more_actuals}
use Rattle.pfc_tree.specs.views.Exprs.{actual_view, actuals_view}

-- the first one at a place, and those behind it
pub one_more : {T : Type 0} (xs : List T) (i : ℕ) (x : T) → i < length xs → drop i xs ≡ get_or xs i x ∷ drop (i + 1) xs
one_more xs i x less = drop-cons xs i x less ∙ ap (λ (k : ℕ). get_or xs i x ∷ drop k xs) (sym (add-one i))

pub actuals_first : (args : List Actual) (i : ℕ) (a : Actual) → i < length args → a ≡ get_or args i a →
    actuals_view (drop i args) ≡ more_actuals (actual_view a) (actuals_view (drop (i + 1) args))
actuals_first args i a less is = ap actuals_view (one_more args i a less) ∙ ap (λ x. more_actuals (actual_view x) (actuals_view (drop (i + 1) args))) (sym is)

pub actuals_none : (args : List Actual) (i : ℕ) → length args ≤ i → actuals_view (drop i args) ≡ no_actuals
actuals_none args i less = ap actuals_view (drop_of_length-le args less)

pub ruleset actuals = (actuals_first, actuals_none)
