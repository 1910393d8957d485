-- An expression is determined by its shape and the tokens.
use Rattle.std.proofs.Common.{refl, Option, Some, None, option_map}
use Rattle.pfc_base.specs.declared.places.Place.{Place}
use Rattle.pfc_tree.specs.declared.tree.Sign.{Sign}
use Rattle.pfc_tree.specs.shapes.Exprs.{ExprShape, SimpleShape, SummandShapes, TermShape, MultiplierShapes, FactorShape, DesigShape, SelectorShape}
use Rattle.pfc_tree.specs.shapes.Exprs.{SelectorShapes, ExprShapes, ActualShape, ActualShapes}
use Rattle.pfc_tree.specs.shapes.Exprs as shape
use Rattle.pfc_tree.specs.trees.Exprs.{ExprTree, SimpleTree, SummandTrees, TermTree, MultiplierTrees, FactorTree, DesigTree, SelectorTree, SelectorTrees}
use Rattle.pfc_tree.specs.trees.Exprs.{ExprTrees, ActualTree, ActualTrees, plain, related, sum, no_summands, more_summands, product, no_multipliers}
use Rattle.pfc_tree.specs.trees.Exprs.{more_multipliers, number, literal, negation, paren, applied, desig, index, field, no_selectors, more_selectors, no_exprs}
use Rattle.pfc_tree.specs.trees.Exprs.{more_exprs, actual, actual_width, no_actuals, more_actuals}
use Rattle.pfc_tree.specs.forget.Exprs.{forget_expr, forget_simple, forget_summands, forget_term, forget_multipliers, forget_factor, forget_desig}
use Rattle.pfc_tree.specs.forget.Exprs.{forget_selector, forget_selectors, forget_exprs, forget_actual, forget_actuals}
use Rattle.pfc_tree.specs.kept.Exprs.{sign_trace, expr_trace, simple_trace, summands_trace, term_trace, multipliers_trace, factor_trace, desig_trace}
use Rattle.pfc_tree.specs.kept.Exprs.{selector_trace, selectors_trace, exprs_trace, comma_exprs_trace, actual_trace, actuals_trace, comma_actuals_trace}
use Rattle.pfc_grammar.proofs.placed_one.Filling.{Filler, fill_done, fill_here, fill_next, fill_part, fill_last, Fills, fills_done, fills_here, fills_next}
use Rattle.pfc_grammar.proofs.placed_one.Filling.{fills_part, fills_last, fills_three}

abbrev pub fill_sign : Option Sign → Filler (Option (Sign × Place))
fill_sign None = fill_done None
fill_sign (Some s) = fill_here (λ p. fill_next (fill_done (Some (s, p))))

pub fills_sign : (o : Option (Sign × Place)) → Fills (sign_trace o) (fill_sign (option_map (λ x. x.0) o)) o
fills_sign None = fills_done _
fills_sign (Some s) = fills_here _ (fills_next (fills_done _))

-- the fillers
abbrev mutual
  pub fill_expr : ExprShape → Filler ExprTree
  fill_expr (shape.plain s) = fill_here (λ p. fill_last (fill_simple s) (λ s'. plain s' p))
  fill_expr (shape.related s r t) =
      fill_here (λ p. fill_part (fill_simple s) (λ s'. fill_here (λ q. fill_next (fill_last (fill_simple t) (λ t'. related s' (r, q) t' p)))))

  pub fill_simple : SimpleShape → Filler SimpleTree
  fill_simple (shape.sum o t us) = fill_part (fill_sign o) (λ o'. fill_part (fill_term t) (λ t'. fill_last (fill_summands us) (λ us'. sum o' t' us')))

  pub fill_summands : SummandShapes → Filler SummandTrees
  fill_summands shape.no_summands = fill_done no_summands
  fill_summands (shape.more_summands op t us) =
      fill_here (λ p. fill_next (fill_part (fill_term t) (λ t'. fill_last (fill_summands us) (λ us'. more_summands (op, p) t' us'))))

  pub fill_term : TermShape → Filler TermTree
  fill_term (shape.product f ms) = fill_part (fill_factor f) (λ f'. fill_last (fill_multipliers ms) (λ ms'. product f' ms'))

  pub fill_multipliers : MultiplierShapes → Filler MultiplierTrees
  fill_multipliers shape.no_multipliers = fill_done no_multipliers
  fill_multipliers (shape.more_multipliers op f ms) =
      fill_here (λ p. fill_next (fill_part (fill_factor f) (λ f'. fill_last (fill_multipliers ms) (λ ms'. more_multipliers (op, p) f' ms'))))

  pub fill_factor : FactorShape → Filler FactorTree
  fill_factor (shape.number n) = fill_here (λ p. fill_next (fill_done (number n p)))
  fill_factor (shape.literal x) = fill_here (λ p. fill_next (fill_done (literal x p)))
  fill_factor (shape.negation f) = fill_here (λ p. fill_next (fill_last (fill_factor f) (λ f'. negation f' p)))
  fill_factor (shape.paren e) = fill_here (λ p. fill_next (fill_part (fill_expr e) (λ e'. fill_next (fill_done (paren e' p)))))
  fill_factor (shape.applied d args) = fill_here (λ p. fill_part (fill_desig d) (λ d'. fill_last (fill_actuals args) (λ args'. applied d' args' p)))

  pub fill_desig : DesigShape → Filler DesigTree
  fill_desig (shape.desig x ss) = fill_here (λ p. fill_next (fill_last (fill_selectors ss) (λ ss'. desig x ss' p)))

  pub fill_selector : SelectorShape → Filler SelectorTree
  fill_selector (shape.index es) = fill_here (λ p. fill_next (fill_part (fill_exprs es) (λ es'. fill_next (fill_done (index es' p)))))
  fill_selector (shape.field x) = fill_next (fill_here (λ p. fill_next (fill_done (field x p))))

  pub fill_selectors : SelectorShapes → Filler SelectorTrees
  fill_selectors shape.no_selectors = fill_done no_selectors
  fill_selectors (shape.more_selectors s ss) = fill_part (fill_selector s) (λ s'. fill_last (fill_selectors ss) (λ ss'. more_selectors s' ss'))

  pub fill_exprs : ExprShapes → Filler ExprTrees
  fill_exprs shape.no_exprs = fill_done no_exprs
  fill_exprs (shape.more_exprs e es) = fill_part (fill_expr e) (λ e'. fill_last (fill_comma_exprs es) (λ es'. more_exprs e' es'))

  pub fill_comma_exprs : ExprShapes → Filler ExprTrees
  fill_comma_exprs shape.no_exprs = fill_done no_exprs
  fill_comma_exprs (shape.more_exprs e es) = fill_next (fill_part (fill_expr e) (λ e'. fill_last (fill_comma_exprs es) (λ es'. more_exprs e' es')))

  pub fill_actual : ActualShape → Filler ActualTree
  fill_actual (shape.actual e) = fill_last (fill_expr e) (λ e'. actual e')
  fill_actual (shape.actual_width e w) = fill_part (fill_expr e) (λ e'. fill_next (fill_last (fill_expr w) (λ w'. actual_width e' w')))

  pub fill_actuals : ActualShapes → Filler ActualTrees
  fill_actuals shape.no_actuals = fill_done no_actuals
  fill_actuals (shape.more_actuals a args) = fill_next (fill_part (fill_actual a) (λ a'. fill_last (fill_comma_actuals args) (λ args'. more_actuals a' args')))

  pub fill_comma_actuals : ActualShapes → Filler ActualTrees
  fill_comma_actuals shape.no_actuals = fill_next (fill_done no_actuals)
  fill_comma_actuals (shape.more_actuals a args) =
      fill_next (fill_part (fill_actual a) (λ a'. fill_last (fill_comma_actuals args) (λ args'. more_actuals a' args')))

-- and that they make each tree from its shape
mutual
  pub fills_expr : (x : ExprTree) → Fills (expr_trace x) (fill_expr (forget_expr x)) x
  fills_expr (plain s p) = fills_here _ (fills_last _ (fills_simple s) refl)
  fills_expr (related s r t p) = fills_here _ (fills_part _ (fills_simple s) (fills_here _ (fills_next (fills_last _ (fills_simple t) refl))))

  pub fills_simple : (x : SimpleTree) → Fills (simple_trace x) (fill_simple (forget_simple x)) x
  fills_simple (sum o t us) =
      fills_three (sign_trace o) (term_trace t) (summands_trace us)
      (fills_part _ (fills_sign o) (fills_part _ (fills_term t) (fills_last _ (fills_summands us) refl)))

  pub fills_summands : (xs : SummandTrees) → Fills (summands_trace xs) (fill_summands (forget_summands xs)) xs
  fills_summands no_summands = fills_done _
  fills_summands (more_summands op t us) = fills_here _ (fills_next (fills_part _ (fills_term t) (fills_last _ (fills_summands us) refl)))

  pub fills_term : (x : TermTree) → Fills (term_trace x) (fill_term (forget_term x)) x
  fills_term (product f ms) = fills_part _ (fills_factor f) (fills_last _ (fills_multipliers ms) refl)

  pub fills_multipliers : (xs : MultiplierTrees) → Fills (multipliers_trace xs) (fill_multipliers (forget_multipliers xs)) xs
  fills_multipliers no_multipliers = fills_done _
  fills_multipliers (more_multipliers op f ms) = fills_here _ (fills_next (fills_part _ (fills_factor f) (fills_last _ (fills_multipliers ms) refl)))

  pub fills_factor : (x : FactorTree) → Fills (factor_trace x) (fill_factor (forget_factor x)) x
  fills_factor (number n p) = fills_here _ (fills_next (fills_done _))
  fills_factor (literal x p) = fills_here _ (fills_next (fills_done _))
  fills_factor (negation f p) = fills_here _ (fills_next (fills_last _ (fills_factor f) refl))
  fills_factor (paren e p) = fills_here _ (fills_next (fills_part _ (fills_expr e) (fills_next (fills_done _))))
  fills_factor (applied d args p) = fills_here _ (fills_part _ (fills_desig d) (fills_last _ (fills_actuals args) refl))

  pub fills_desig : (x : DesigTree) → Fills (desig_trace x) (fill_desig (forget_desig x)) x
  fills_desig (desig x ss p) = fills_here _ (fills_next (fills_last _ (fills_selectors ss) refl))

  pub fills_selector : (x : SelectorTree) → Fills (selector_trace x) (fill_selector (forget_selector x)) x
  fills_selector (index es p) = fills_here _ (fills_next (fills_part _ (fills_exprs es) (fills_next (fills_done _))))
  fills_selector (field x p) = fills_next (fills_here _ (fills_next (fills_done _)))

  pub fills_selectors : (xs : SelectorTrees) → Fills (selectors_trace xs) (fill_selectors (forget_selectors xs)) xs
  fills_selectors no_selectors = fills_done _
  fills_selectors (more_selectors s ss) = fills_part _ (fills_selector s) (fills_last _ (fills_selectors ss) refl)

  pub fills_exprs : (xs : ExprTrees) → Fills (exprs_trace xs) (fill_exprs (forget_exprs xs)) xs
  fills_exprs no_exprs = fills_done _
  fills_exprs (more_exprs e es) = fills_part _ (fills_expr e) (fills_last _ (fills_comma_exprs es) refl)

  pub fills_comma_exprs : (xs : ExprTrees) → Fills (comma_exprs_trace xs) (fill_comma_exprs (forget_exprs xs)) xs
  fills_comma_exprs no_exprs = fills_done _
  fills_comma_exprs (more_exprs e es) = fills_next (fills_part _ (fills_expr e) (fills_last _ (fills_comma_exprs es) refl))

  pub fills_actual : (x : ActualTree) → Fills (actual_trace x) (fill_actual (forget_actual x)) x
  fills_actual (actual e) = fills_last _ (fills_expr e) refl
  fills_actual (actual_width e w) = fills_part _ (fills_expr e) (fills_next (fills_last _ (fills_expr w) refl))

  pub fills_actuals : (xs : ActualTrees) → Fills (actuals_trace xs) (fill_actuals (forget_actuals xs)) xs
  fills_actuals no_actuals = fills_done _
  fills_actuals (more_actuals a args) = fills_next (fills_part _ (fills_actual a) (fills_last _ (fills_comma_actuals args) refl))

  pub fills_comma_actuals : (xs : ActualTrees) → Fills (comma_actuals_trace xs) (fill_comma_actuals (forget_actuals xs)) xs
  fills_comma_actuals no_actuals = fills_next (fills_done _)
  fills_comma_actuals (more_actuals a args) = fills_next (fills_part _ (fills_actual a) (fills_last _ (fills_comma_actuals args) refl))
