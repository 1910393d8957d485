-- The program's expressions read as plain trees: each list of the program as a list, each box as its content.
use Rattle.std.specs.Prelude.{Option, Some, None, List, [], ◌∷◌, map, option_map}
use Rattle.pfc_base.specs.declared.places.Place.{Place}
use Rattle.pfc_tree.specs.declared.tree.Relation.{Relation}
use Rattle.pfc_tree.specs.declared.tree.AddOp.{AddOp}
use Rattle.pfc_tree.specs.declared.tree.MulOp.{MulOp}
use Rattle.pfc_tree.specs.declared.tree.Factor.{Factor, Factor-F, fold-Factor}
use Rattle.pfc_tree.specs.declared.tree.Selector.{Selector, Selector-F, fold-Selector}
use Rattle.pfc_tree.specs.declared.tree.Actual.{Actual, Actual-F, fold-Actual}
use Rattle.pfc_tree.specs.declared.tree.Desig.{Desig, Desig-F, fold-Desig}
use Rattle.pfc_tree.specs.declared.tree.Expr.{Expr, Expr-F, fold-Expr}
use Rattle.pfc_tree.specs.declared.tree.Simple.{Simple, Simple-F, fold-Simple}
use Rattle.pfc_tree.specs.declared.tree.Term.{Term, Term-F, fold-Term}
use Rattle.pfc_tree.specs.declared.tree.Factor.TheOpen as layer
use Rattle.pfc_tree.specs.trees.Exprs.{ExprTree, SimpleTree, SummandTrees, TermTree, MultiplierTrees, FactorTree, DesigTree, SelectorTree, SelectorTrees}
use Rattle.pfc_tree.specs.trees.Exprs.{ExprTrees, ActualTree, ActualTrees, plain, related, sum, no_summands, more_summands, product, no_multipliers}
use Rattle.pfc_tree.specs.trees.Exprs.{more_multipliers, number, literal, negation, paren, applied, desig, index, field, no_selectors, more_selectors, no_exprs}
use Rattle.pfc_tree.specs.trees.Exprs.{more_exprs, actual, actual_width, no_actuals, more_actuals}

-- lists of nodes
abbrev pub summands_of : List ((AddOp × Place) × TermTree) → SummandTrees
summands_of [] = no_summands
summands_of (u ∷ us) = more_summands u.0 u.1 (summands_of us)

abbrev pub multipliers_of : List ((MulOp × Place) × FactorTree) → MultiplierTrees
multipliers_of [] = no_multipliers
multipliers_of (m ∷ ms) = more_multipliers m.0 m.1 (multipliers_of ms)

abbrev pub selectors_of : List SelectorTree → SelectorTrees
selectors_of [] = no_selectors
selectors_of (s ∷ ss) = more_selectors s (selectors_of ss)

abbrev pub exprs_of : List ExprTree → ExprTrees
exprs_of [] = no_exprs
exprs_of (e ∷ es) = more_exprs e (exprs_of es)

abbrev pub actuals_of : List ActualTree → ActualTrees
actuals_of [] = no_actuals
actuals_of (a ∷ args) = more_actuals a (actuals_of args)

-- one node, whose parts are read
abbrev pub expr_of : SimpleTree → Option ((Relation × Place) × SimpleTree) → Place → ExprTree
expr_of s None p = plain s p
expr_of s (Some r) p = related s r.0 r.1 p

abbrev pub actual_of : ExprTree → Option ExprTree → ActualTree
actual_of e None = actual e
actual_of e (Some width) = actual_width e width

abbrev pub factor_step : Factor-F FactorTree SelectorTree ActualTree DesigTree ExprTree SimpleTree TermTree → FactorTree
factor_step (layer.Number n p) = number n p
factor_step (layer.Literal x p) = literal x p
factor_step (layer.Not f p) = negation f.value p
factor_step (layer.Paren e p) = paren e.value p
factor_step (layer.Use d args p) = applied d (actuals_of args.items) p

abbrev pub selector_step : Selector-F FactorTree SelectorTree ActualTree DesigTree ExprTree SimpleTree TermTree → SelectorTree
selector_step (layer.Index es p) = index (exprs_of es.items) p
selector_step (layer.Field x p) = field x p

abbrev pub actual_step : Actual-F FactorTree SelectorTree ActualTree DesigTree ExprTree SimpleTree TermTree → ActualTree
actual_step a = actual_of a.value (option_map (λ width. width.value) a.width)

abbrev pub desig_step : Desig-F FactorTree SelectorTree ActualTree DesigTree ExprTree SimpleTree TermTree → DesigTree
desig_step d = desig d.name (selectors_of d.selectors.items) d.place

abbrev pub expr_step : Expr-F FactorTree SelectorTree ActualTree DesigTree ExprTree SimpleTree TermTree → ExprTree
expr_step e = expr_of e.left (option_map (λ r. (r.0, r.1.value)) e.right) e.place

abbrev pub simple_step : Simple-F FactorTree SelectorTree ActualTree DesigTree ExprTree SimpleTree TermTree → SimpleTree
simple_step s = sum s.sign s.first (summands_of s.rest.items)

abbrev pub term_step : Term-F FactorTree SelectorTree ActualTree DesigTree ExprTree SimpleTree TermTree → TermTree
term_step t = product t.first (multipliers_of t.rest.items)

-- the readings
abbrev pub factor_view : Factor → FactorTree
factor_view = fold-Factor FactorTree SelectorTree ActualTree DesigTree ExprTree SimpleTree TermTree factor_step selector_step actual_step
    desig_step expr_step simple_step term_step

abbrev pub selector_view : Selector → SelectorTree
selector_view = fold-Selector FactorTree SelectorTree ActualTree DesigTree ExprTree SimpleTree TermTree factor_step selector_step actual_step
    desig_step expr_step simple_step term_step

abbrev pub actual_view : Actual → ActualTree
actual_view = fold-Actual FactorTree SelectorTree ActualTree DesigTree ExprTree SimpleTree TermTree factor_step selector_step actual_step
    desig_step expr_step simple_step term_step

abbrev pub desig_view : Desig → DesigTree
desig_view = fold-Desig FactorTree SelectorTree ActualTree DesigTree ExprTree SimpleTree TermTree factor_step selector_step actual_step
    desig_step expr_step simple_step term_step

abbrev pub expr_view : Expr → ExprTree
expr_view = fold-Expr FactorTree SelectorTree ActualTree DesigTree ExprTree SimpleTree TermTree factor_step selector_step actual_step
    desig_step expr_step simple_step term_step

abbrev pub simple_view : Simple → SimpleTree
simple_view = fold-Simple FactorTree SelectorTree ActualTree DesigTree ExprTree SimpleTree TermTree factor_step selector_step actual_step
    desig_step expr_step simple_step term_step

abbrev pub term_view : Term → TermTree
term_view = fold-Term FactorTree SelectorTree ActualTree DesigTree ExprTree SimpleTree TermTree factor_step selector_step actual_step
    desig_step expr_step simple_step term_step

abbrev pub summands_view : List ((AddOp × Place) × Term) → SummandTrees
summands_view us = summands_of (map (λ u. (u.0, term_view u.1)) us)

abbrev pub multipliers_view : List ((MulOp × Place) × Factor) → MultiplierTrees
multipliers_view ms = multipliers_of (map (λ m. (m.0, factor_view m.1)) ms)

abbrev pub selectors_view : List Selector → SelectorTrees
selectors_view ss = selectors_of (map selector_view ss)

abbrev pub exprs_view : List Expr → ExprTrees
exprs_view es = exprs_of (map expr_view es)

abbrev pub actuals_view : List Actual → ActualTrees
actuals_view args = actuals_of (map actual_view args)
