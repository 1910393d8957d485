-- Forgetting the places of expressions.
use Rattle.std.specs.Prelude.{option_map}
use Rattle.pfc_tree.specs.trees.Exprs.{ExprTree, SimpleTree, SummandTrees, TermTree, MultiplierTrees, FactorTree, DesigTree, SelectorTree, SelectorTrees}
use Rattle.pfc_tree.specs.trees.Exprs.{ExprTrees, ActualTree, ActualTrees, plain, related, sum, no_summands, more_summands, product, no_multipliers}
use Rattle.pfc_tree.specs.trees.Exprs.{more_multipliers, number, literal, negation, paren, applied, desig, index, field, no_selectors, more_selectors, no_exprs}
use Rattle.pfc_tree.specs.trees.Exprs.{more_exprs, actual, actual_width, no_actuals, more_actuals}
use Rattle.pfc_tree.specs.shapes.Exprs.{ExprShape, SimpleShape, SummandShapes, TermShape, MultiplierShapes, FactorShape, DesigShape, SelectorShape}
use Rattle.pfc_tree.specs.shapes.Exprs.{SelectorShapes, ExprShapes, ActualShape, ActualShapes}
use Rattle.pfc_tree.specs.shapes.Exprs as shape

abbrev mutual
  pub forget_expr : ExprTree → ExprShape
  forget_expr (plain s p) = shape.plain (forget_simple s)
  forget_expr (related s x s' p) = shape.related (forget_simple s) x.0 (forget_simple s')

  pub forget_simple : SimpleTree → SimpleShape
  forget_simple (sum o t us) = shape.sum (option_map (λ x. x.0) o) (forget_term t) (forget_summands us)

  pub forget_summands : SummandTrees → SummandShapes
  forget_summands no_summands = shape.no_summands
  forget_summands (more_summands x t us) = shape.more_summands x.0 (forget_term t) (forget_summands us)

  pub forget_term : TermTree → TermShape
  forget_term (product f ms) = shape.product (forget_factor f) (forget_multipliers ms)

  pub forget_multipliers : MultiplierTrees → MultiplierShapes
  forget_multipliers no_multipliers = shape.no_multipliers
  forget_multipliers (more_multipliers x f ms) = shape.more_multipliers x.0 (forget_factor f) (forget_multipliers ms)

  pub forget_factor : FactorTree → FactorShape
  forget_factor (number n p) = shape.number n
  forget_factor (literal x p) = shape.literal x
  forget_factor (negation f p) = shape.negation (forget_factor f)
  forget_factor (paren e p) = shape.paren (forget_expr e)
  forget_factor (applied d args p) = shape.applied (forget_desig d) (forget_actuals args)

  pub forget_desig : DesigTree → DesigShape
  forget_desig (desig x ss p) = shape.desig x (forget_selectors ss)

  pub forget_selector : SelectorTree → SelectorShape
  forget_selector (index es p) = shape.index (forget_exprs es)
  forget_selector (field x p) = shape.field x

  pub forget_selectors : SelectorTrees → SelectorShapes
  forget_selectors no_selectors = shape.no_selectors
  forget_selectors (more_selectors s ss) = shape.more_selectors (forget_selector s) (forget_selectors ss)

  pub forget_exprs : ExprTrees → ExprShapes
  forget_exprs no_exprs = shape.no_exprs
  forget_exprs (more_exprs e es) = shape.more_exprs (forget_expr e) (forget_exprs es)

  pub forget_actual : ActualTree → ActualShape
  forget_actual (actual e) = shape.actual (forget_expr e)
  forget_actual (actual_width e e') = shape.actual_width (forget_expr e) (forget_expr e')

  pub forget_actuals : ActualTrees → ActualShapes
  forget_actuals no_actuals = shape.no_actuals
  forget_actuals (more_actuals a args) = shape.more_actuals (forget_actual a) (forget_actuals args)
