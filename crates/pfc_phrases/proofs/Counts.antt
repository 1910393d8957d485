-- How many arguments there are.
use Rattle.std.proofs.Common.{◌≡◌, List, [], ◌∷◌, length, ap, refl, ◌+◌, ◌∙◌, arith}
use Rattle.pfc_tree.specs.declared.tree.Actual.{Actual}
use Rattle.pfc_tree.specs.views.Exprs.{actuals_view}
use Rattle.pfc_types.specs.rules.Expressions.{actual_count}

pub count_actuals : (args : List Actual) → actual_count (actuals_view args) ≡ length args
count_actuals [] = refl
count_actuals (a ∷ args) = ap (λ n. 1 + n) (count_actuals args) ∙ omega arith
