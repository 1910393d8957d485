-- Expressions: a trace passes as many tokens as are written.
use Rattle.std.proofs.Common.{◌≡◌, length, refl, Option, Some, None, option_map}
use Rattle.pfc_base.specs.declared.places.Place.{Place}
use Rattle.pfc_tree.specs.kept.Exprs.{passed}
use Rattle.pfc_tree.proofs.kept.Passing.{passing}
use Rattle.pfc_tree.specs.declared.tree.Sign.{Sign}
use Rattle.pfc_tree.specs.trees.Exprs.{ExprTree, SimpleTree, SummandTrees, TermTree, MultiplierTrees, FactorTree, DesigTree, SelectorTree, SelectorTrees}
use Rattle.pfc_tree.specs.trees.Exprs.{ExprTrees, ActualTree, ActualTrees, plain, related, sum, no_summands, more_summands, product, no_multipliers}
use Rattle.pfc_tree.specs.trees.Exprs.{more_multipliers, number, literal, negation, paren, applied, desig, index, field, no_selectors, more_selectors, no_exprs}
use Rattle.pfc_tree.specs.trees.Exprs.{more_exprs, actual, actual_width, no_actuals, more_actuals}
use Rattle.pfc_tree.specs.forget.Exprs.{forget_expr, forget_simple, forget_summands, forget_term, forget_multipliers, forget_factor, forget_desig}
use Rattle.pfc_tree.specs.forget.Exprs.{forget_selector, forget_selectors, forget_exprs, forget_actual, forget_actuals}
use Rattle.pfc_tree.specs.tokens.Exprs.{expr_tokens, simple_tokens, summands_tokens, term_tokens, multipliers_tokens, factor_tokens, desig_tokens}
use Rattle.pfc_tree.specs.tokens.Exprs.{selector_tokens, selectors_tokens, exprs_tokens, comma_exprs_tokens, actual_tokens, actuals_tokens}
use Rattle.pfc_tree.specs.tokens.Exprs.{comma_actuals_tokens, sign_tokens}
use Rattle.pfc_tree.specs.kept.Exprs.{expr_trace, simple_trace, summands_trace, term_trace, multipliers_trace, factor_trace, desig_trace, selector_trace}
use Rattle.pfc_tree.specs.kept.Exprs.{selectors_trace, exprs_trace, comma_exprs_trace, actual_trace, actuals_trace, comma_actuals_trace, sign_trace}

pub sign_passed : (o : Option (Sign × Place)) → passed (sign_trace o) ≡ length (sign_tokens (option_map (λ x. x.0) o))
sign_passed None = refl
sign_passed (Some s) = refl

mutual
  pub expr_passed : (x : ExprTree) → passed (expr_trace x) ≡ length (expr_tokens (forget_expr x))
  expr_passed (plain s p) = search (passing, simple_passed s) depth 14
  expr_passed (related s x s' p) = search (passing, simple_passed s, simple_passed s') depth 14

  pub simple_passed : (x : SimpleTree) → passed (simple_trace x) ≡ length (simple_tokens (forget_simple x))
  simple_passed (sum o t us) = search (passing, sign_passed o, term_passed t, summands_passed us) depth 14

  pub summands_passed : (xs : SummandTrees) → passed (summands_trace xs) ≡ length (summands_tokens (forget_summands xs))
  summands_passed no_summands = refl
  summands_passed (more_summands x t us) = search (passing, term_passed t, summands_passed us) depth 14

  pub term_passed : (x : TermTree) → passed (term_trace x) ≡ length (term_tokens (forget_term x))
  term_passed (product f ms) = search (passing, factor_passed f, multipliers_passed ms) depth 14

  pub multipliers_passed : (xs : MultiplierTrees) → passed (multipliers_trace xs) ≡ length (multipliers_tokens (forget_multipliers xs))
  multipliers_passed no_multipliers = refl
  multipliers_passed (more_multipliers x f ms) = search (passing, factor_passed f, multipliers_passed ms) depth 14

  pub factor_passed : (x : FactorTree) → passed (factor_trace x) ≡ length (factor_tokens (forget_factor x))
  factor_passed (number n p) = search passing depth 14
  factor_passed (literal x p) = search passing depth 14
  factor_passed (negation f p) = search (passing, factor_passed f) depth 14
  factor_passed (paren e p) = search (passing, expr_passed e) depth 14
  factor_passed (applied d args p) = search (passing, desig_passed d, actuals_passed args) depth 14

  pub desig_passed : (x : DesigTree) → passed (desig_trace x) ≡ length (desig_tokens (forget_desig x))
  desig_passed (desig x ss p) = search (passing, selectors_passed ss) depth 14

  pub selector_passed : (x : SelectorTree) → passed (selector_trace x) ≡ length (selector_tokens (forget_selector x))
  selector_passed (index es p) = search (passing, exprs_passed es) depth 14
  selector_passed (field x p) = search passing depth 14

  pub selectors_passed : (xs : SelectorTrees) → passed (selectors_trace xs) ≡ length (selectors_tokens (forget_selectors xs))
  selectors_passed no_selectors = refl
  selectors_passed (more_selectors s ss) = search (passing, selector_passed s, selectors_passed ss) depth 14

  pub exprs_passed : (xs : ExprTrees) → passed (exprs_trace xs) ≡ length (exprs_tokens (forget_exprs xs))
  exprs_passed no_exprs = refl
  exprs_passed (more_exprs e es) = search (passing, expr_passed e, comma_exprs_passed es) depth 14

  pub comma_exprs_passed : (xs : ExprTrees) → passed (comma_exprs_trace xs) ≡ length (comma_exprs_tokens (forget_exprs xs))
  comma_exprs_passed no_exprs = refl
  comma_exprs_passed (more_exprs e es) = search (passing, expr_passed e, comma_exprs_passed es) depth 14

  pub actual_passed : (x : ActualTree) → passed (actual_trace x) ≡ length (actual_tokens (forget_actual x))
  actual_passed (actual e) = search (passing, expr_passed e) depth 14
  actual_passed (actual_width e e') = search (passing, expr_passed e, expr_passed e') depth 14

  pub actuals_passed : (xs : ActualTrees) → passed (actuals_trace xs) ≡ length (actuals_tokens (forget_actuals xs))
  actuals_passed no_actuals = refl
  actuals_passed (more_actuals a args) = search (passing, actual_passed a, comma_actuals_passed args) depth 14

  pub comma_actuals_passed : (xs : ActualTrees) → passed (comma_actuals_trace xs) ≡ length (comma_actuals_tokens (forget_actuals xs))
  comma_actuals_passed no_actuals = refl
  comma_actuals_passed (more_actuals a args) = search (passing, actual_passed a, comma_actuals_passed args) depth 14
