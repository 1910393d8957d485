-- Expressions: as many depths as tokens.
use Rattle.std.proofs.Common.{◌≡◌, length, refl}
use Rattle.pfc_tree.proofs.depths.Evens.{evens}
use Rattle.pfc_tree.specs.shapes.Exprs.{ExprShape, SimpleShape, SummandShapes, TermShape, MultiplierShapes, FactorShape, DesigShape, SelectorShape}
use Rattle.pfc_tree.specs.shapes.Exprs.{SelectorShapes, ExprShapes, ActualShape, ActualShapes, plain, related, sum, no_summands, more_summands, product}
use Rattle.pfc_tree.specs.shapes.Exprs.{no_multipliers, more_multipliers, number, literal, negation, paren, applied, desig, index, field, no_selectors}
use Rattle.pfc_tree.specs.shapes.Exprs.{more_selectors, no_exprs, more_exprs, actual, actual_width, no_actuals, more_actuals}
use Rattle.pfc_tree.specs.tokens.Exprs.{expr_tokens, simple_tokens, summands_tokens, term_tokens, multipliers_tokens, factor_tokens, desig_tokens}
use Rattle.pfc_tree.specs.tokens.Exprs.{selector_tokens, selectors_tokens, exprs_tokens, comma_exprs_tokens, actual_tokens, actuals_tokens}
use Rattle.pfc_tree.specs.tokens.Exprs.{comma_actuals_tokens}
use Rattle.pfc_tree.specs.depths.Exprs.{expr_depths, simple_depths, summands_depths, term_depths, multipliers_depths, factor_depths, desig_depths}
use Rattle.pfc_tree.specs.depths.Exprs.{selector_depths, selectors_depths, exprs_depths, comma_exprs_depths, actual_depths, actuals_depths}
use Rattle.pfc_tree.specs.depths.Exprs.{comma_actuals_depths}

mutual
  pub expr_even : (x : ExprShape) → length (expr_depths x) ≡ length (expr_tokens x)
  expr_even (plain s) = search (evens, simple_even s) depth 14
  expr_even (related s x s') = search (evens, simple_even s, simple_even s') depth 14

  pub simple_even : (x : SimpleShape) → length (simple_depths x) ≡ length (simple_tokens x)
  simple_even (sum o t us) = search (evens, term_even t, summands_even us) depth 14

  pub summands_even : (xs : SummandShapes) → length (summands_depths xs) ≡ length (summands_tokens xs)
  summands_even no_summands = refl
  summands_even (more_summands x t us) = search (evens, term_even t, summands_even us) depth 14

  pub term_even : (x : TermShape) → length (term_depths x) ≡ length (term_tokens x)
  term_even (product f ms) = search (evens, factor_even f, multipliers_even ms) depth 14

  pub multipliers_even : (xs : MultiplierShapes) → length (multipliers_depths xs) ≡ length (multipliers_tokens xs)
  multipliers_even no_multipliers = refl
  multipliers_even (more_multipliers x f ms) = search (evens, factor_even f, multipliers_even ms) depth 14

  pub factor_even : (x : FactorShape) → length (factor_depths x) ≡ length (factor_tokens x)
  factor_even (number n) = search evens depth 14
  factor_even (literal x) = search evens depth 14
  factor_even (negation f) = search (evens, factor_even f) depth 14
  factor_even (paren e) = search (evens, expr_even e) depth 14
  factor_even (applied d args) = search (evens, desig_even d, actuals_even args) depth 14

  pub desig_even : (x : DesigShape) → length (desig_depths x) ≡ length (desig_tokens x)
  desig_even (desig x ss) = search (evens, selectors_even ss) depth 14

  pub selector_even : (x : SelectorShape) → length (selector_depths x) ≡ length (selector_tokens x)
  selector_even (index es) = search (evens, exprs_even es) depth 14
  selector_even (field x) = search evens depth 14

  pub selectors_even : (xs : SelectorShapes) → length (selectors_depths xs) ≡ length (selectors_tokens xs)
  selectors_even no_selectors = refl
  selectors_even (more_selectors s ss) = search (evens, selector_even s, selectors_even ss) depth 14

  pub exprs_even : (xs : ExprShapes) → length (exprs_depths xs) ≡ length (exprs_tokens xs)
  exprs_even no_exprs = refl
  exprs_even (more_exprs e es) = search (evens, expr_even e, comma_exprs_even es) depth 14

  pub comma_exprs_even : (xs : ExprShapes) → length (comma_exprs_depths xs) ≡ length (comma_exprs_tokens xs)
  comma_exprs_even no_exprs = refl
  comma_exprs_even (more_exprs e es) = search (evens, expr_even e, comma_exprs_even es) depth 14

  pub actual_even : (x : ActualShape) → length (actual_depths x) ≡ length (actual_tokens x)
  actual_even (actual e) = search (evens, expr_even e) depth 14
  actual_even (actual_width e e') = search (evens, expr_even e, expr_even e') depth 14

  pub actuals_even : (xs : ActualShapes) → length (actuals_depths xs) ≡ length (actuals_tokens xs)
  actuals_even no_actuals = refl
  actuals_even (more_actuals a args) = search (evens, actual_even a, comma_actuals_even args) depth 14

  pub comma_actuals_even : (xs : ActualShapes) → length (comma_actuals_depths xs) ≡ length (comma_actuals_tokens xs)
  comma_actuals_even no_actuals = refl
  comma_actuals_even (more_actuals a args) = search (evens, actual_even a, comma_actuals_even args) depth 14
