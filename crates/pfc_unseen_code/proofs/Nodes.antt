-- An item of a call, read part by part.
use Rattle.std.proofs.Common.{◌≡◌, ◌∙◌, Option, Some, None, refl, ap}
use Rattle.pfc_tree.specs.declared.tree.Actual.{Actual, out-Actual, fold_out-Actual}
use Rattle.pfc_tree.specs.trees.Exprs.{ExprTree, SimpleTree, TermTree, FactorTree, DesigTree, SelectorTree, ActualTree}
use Rattle.pfc_tree.specs.views.Exprs.{actual_of, actual_view, expr_view, factor_step, selector_step, actual_step, desig_step, expr_step, simple_step}
use Rattle.pfc_tree.specs.views.Exprs.{term_step}
use Rattle.pfc_semantics.specs.Statements.{item_of}

item_of-value : (e : ExprTree) (width : Option ExprTree) → item_of (actual_of e width) ≡ e
item_of-value e None = refl
item_of-value e (Some width) = refl

pub item_of-out : (a : Actual) → item_of (actual_view a) ≡ expr_view (out-Actual a).value
item_of-out a =
    ap item_of
    (fold_out-Actual FactorTree SelectorTree ActualTree DesigTree ExprTree SimpleTree TermTree factor_step selector_step actual_step desig_step
    expr_step simple_step term_step a)
    ∙ item_of-value _ _

pub ruleset items = item_of-out
