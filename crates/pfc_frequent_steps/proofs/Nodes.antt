-- Nodes, read part by part.
use Rattle.std.proofs.Common.{◌≡◌}
use Rattle.pfc_tree.specs.declared.tree.Term.{Term, out-Term, fold_out-Term}
use Rattle.pfc_tree.specs.declared.tree.Simple.{Simple, out-Simple, fold_out-Simple}
use Rattle.pfc_tree.specs.declared.tree.Desig.{Desig, out-Desig, fold_out-Desig}
use Rattle.pfc_tree.specs.trees.Exprs.{FactorTree, SelectorTree, ActualTree, DesigTree, ExprTree, SimpleTree, TermTree, product, sum, desig}
use Rattle.pfc_tree.specs.views.Exprs.{simple_view, term_view, desig_view, selectors_view, factor_view, summands_view, multipliers_view, factor_step}
use Rattle.pfc_tree.specs.views.Exprs.{selector_step, actual_step, desig_step, expr_step, simple_step, term_step}

pub term_view-out : (t : Term) → term_view t ≡ product (factor_view (out-Term t).first) (multipliers_view (out-Term t).rest.items)
term_view-out t = fold_out-Term FactorTree SelectorTree ActualTree DesigTree ExprTree SimpleTree TermTree factor_step selector_step actual_step
    desig_step expr_step simple_step term_step t

pub simple_view-out : (s : Simple) → simple_view s ≡ sum (out-Simple s).sign (term_view (out-Simple s).first) (summands_view (out-Simple s).rest.items)
simple_view-out s = fold_out-Simple FactorTree SelectorTree ActualTree DesigTree ExprTree SimpleTree TermTree factor_step selector_step actual_step
    desig_step expr_step simple_step term_step s

pub desig_view-out : (d : Desig) → desig_view d ≡ desig (out-Desig d).name (selectors_view (out-Desig d).selectors.items) (out-Desig d).place
desig_view-out d = fold_out-Desig FactorTree SelectorTree ActualTree DesigTree ExprTree SimpleTree TermTree factor_step selector_step actual_step
    desig_step expr_step simple_step term_step d

pub ruleset nodes = (term_view-out, simple_view-out)

pub ruleset names = desig_view-out
