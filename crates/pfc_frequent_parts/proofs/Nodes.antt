-- A variable's part, read part by part.
use Rattle.std.proofs.Common.{◌≡◌}
use Rattle.pfc_tree.specs.declared.tree.Desig.{Desig, out-Desig, fold_out-Desig}
use Rattle.pfc_tree.specs.trees.Exprs.{FactorTree, SelectorTree, ActualTree, DesigTree, ExprTree, SimpleTree, TermTree, desig}
use Rattle.pfc_tree.specs.views.Exprs.{desig_view, selectors_view, factor_step, selector_step, actual_step, desig_step, expr_step, simple_step, term_step}

pub desig_view-out : (d : Desig) → desig_view d ≡ desig (out-Desig d).name (selectors_view (out-Desig d).selectors.items) (out-Desig d).place
desig_view-out d = fold_out-Desig FactorTree SelectorTree ActualTree DesigTree ExprTree SimpleTree TermTree factor_step selector_step actual_step
    desig_step expr_step simple_step term_step d

pub ruleset names = desig_view-out
