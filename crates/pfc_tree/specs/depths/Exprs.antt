-- The depth of each token of an expression, beside the depth of what stands around it: an expression and a `not` factor
-- add one to the depth of each token in it.
use Rattle.std.specs.Prelude.{ℕ, suc, List, [], ◌∷◌, ◌++◌, map}
use Rattle.pfc_tree.specs.Symbols.{Symbol}
use Rattle.pfc_tree.specs.shapes.Exprs.{ExprShape, SimpleShape, SummandShapes, TermShape, MultiplierShapes, FactorShape, DesigShape, SelectorShape}
use Rattle.pfc_tree.specs.shapes.Exprs.{SelectorShapes, ExprShapes, ActualShape, ActualShapes, plain, related, sum, no_summands, more_summands, product}
use Rattle.pfc_tree.specs.shapes.Exprs.{no_multipliers, more_multipliers, number, literal, negation, paren, applied, desig, index, field, no_selectors}
use Rattle.pfc_tree.specs.shapes.Exprs.{more_selectors, no_exprs, more_exprs, actual, actual_width, no_actuals, more_actuals}
use Rattle.pfc_tree.specs.tokens.Exprs.{sign_tokens}

-- the same tokens, one construct deeper
abbrev pub deeper : List ℕ → List ℕ
deeper ds = map (λ d. suc d) ds

-- tokens that no construct of their own contains
abbrev pub level : List Symbol → List ℕ
level ts = map (λ t. 0) ts

abbrev mutual
  pub expr_depths : ExprShape → List ℕ
  expr_depths (plain s) = deeper (simple_depths s)
  expr_depths (related s r t) = deeper (simple_depths s ++ 0 ∷ simple_depths t)

  pub simple_depths : SimpleShape → List ℕ
  simple_depths (sum sign t us) = level (sign_tokens sign) ++ term_depths t ++ summands_depths us

  pub summands_depths : SummandShapes → List ℕ
  summands_depths no_summands = []
  summands_depths (more_summands op t us) = 0 ∷ term_depths t ++ summands_depths us

  pub term_depths : TermShape → List ℕ
  term_depths (product f ms) = factor_depths f ++ multipliers_depths ms

  pub multipliers_depths : MultiplierShapes → List ℕ
  multipliers_depths no_multipliers = []
  multipliers_depths (more_multipliers op f ms) = 0 ∷ factor_depths f ++ multipliers_depths ms

  pub factor_depths : FactorShape → List ℕ
  factor_depths (number n) = 0 ∷ []
  factor_depths (literal x) = 0 ∷ []
  factor_depths (negation f) = deeper (0 ∷ factor_depths f)
  factor_depths (paren e) = 0 ∷ expr_depths e ++ 0 ∷ []
  factor_depths (applied d args) = desig_depths d ++ actuals_depths args

  pub desig_depths : DesigShape → List ℕ
  desig_depths (desig x ss) = 0 ∷ selectors_depths ss

  pub selectors_depths : SelectorShapes → List ℕ
  selectors_depths no_selectors = []
  selectors_depths (more_selectors s ss) = selector_depths s ++ selectors_depths ss

  pub selector_depths : SelectorShape → List ℕ
  selector_depths (index es) = 0 ∷ exprs_depths es ++ 0 ∷ []
  selector_depths (field x) = 0 ∷ 0 ∷ []

  pub exprs_depths : ExprShapes → List ℕ
  exprs_depths no_exprs = []
  exprs_depths (more_exprs e es) = expr_depths e ++ comma_exprs_depths es

  pub comma_exprs_depths : ExprShapes → List ℕ
  comma_exprs_depths no_exprs = []
  comma_exprs_depths (more_exprs e es) = 0 ∷ expr_depths e ++ comma_exprs_depths es

  pub actuals_depths : ActualShapes → List ℕ
  actuals_depths no_actuals = []
  actuals_depths (more_actuals a args) = 0 ∷ actual_depths a ++ comma_actuals_depths args

  pub comma_actuals_depths : ActualShapes → List ℕ
  comma_actuals_depths no_actuals = 0 ∷ []
  comma_actuals_depths (more_actuals a args) = 0 ∷ actual_depths a ++ comma_actuals_depths args

  pub actual_depths : ActualShape → List ℕ
  actual_depths (actual e) = expr_depths e
  actual_depths (actual_width e width) = expr_depths e ++ 0 ∷ expr_depths width
