-- When an expression is lawful: an index has an expression, and no number is negative.
use Rattle.std.specs.Prelude.{ℤ, pos, ◌≤ℤ◌}
use Rattle.pfc_tree.specs.shapes.Exprs.{ExprShape, SimpleShape, SummandShapes, TermShape, MultiplierShapes, FactorShape, DesigShape, SelectorShape}
use Rattle.pfc_tree.specs.shapes.Exprs.{SelectorShapes, ExprShapes, ActualShape, ActualShapes, plain, related, sum, no_summands, more_summands, product}
use Rattle.pfc_tree.specs.shapes.Exprs.{no_multipliers, more_multipliers, number, literal, negation, paren, applied, desig, index, field, no_selectors}
use Rattle.pfc_tree.specs.shapes.Exprs.{more_selectors, no_exprs, more_exprs, actual, actual_width, no_actuals, more_actuals}

-- a number is written without a sign
abbrev pub IsWritten : ℤ → Type 0
IsWritten n = pos 0 ≤ℤ n

abbrev mutual
  pub IsLawfulExpr : ExprShape → Type 0
  IsLawfulExpr (plain s) = IsLawfulSimple s
  IsLawfulExpr (related s r t) = IsLawfulSimple s × IsLawfulSimple t

  pub IsLawfulSimple : SimpleShape → Type 0
  IsLawfulSimple (sum sign t us) = IsLawfulTerm t × AreLawfulSummands us

  pub AreLawfulSummands : SummandShapes → Type 0
  AreLawfulSummands no_summands = Unit {0}
  AreLawfulSummands (more_summands op t us) = IsLawfulTerm t × AreLawfulSummands us

  pub IsLawfulTerm : TermShape → Type 0
  IsLawfulTerm (product f ms) = IsLawfulFactor f × AreLawfulMultipliers ms

  pub AreLawfulMultipliers : MultiplierShapes → Type 0
  AreLawfulMultipliers no_multipliers = Unit {0}
  AreLawfulMultipliers (more_multipliers op f ms) = IsLawfulFactor f × AreLawfulMultipliers ms

  pub IsLawfulFactor : FactorShape → Type 0
  IsLawfulFactor (number n) = IsWritten n
  IsLawfulFactor (literal x) = Unit {0}
  IsLawfulFactor (negation f) = IsLawfulFactor f
  IsLawfulFactor (paren e) = IsLawfulExpr e
  IsLawfulFactor (applied d args) = IsLawfulDesig d × AreLawfulActuals args

  pub IsLawfulDesig : DesigShape → Type 0
  IsLawfulDesig (desig x ss) = AreLawfulSelectors ss

  pub AreLawfulSelectors : SelectorShapes → Type 0
  AreLawfulSelectors no_selectors = Unit {0}
  AreLawfulSelectors (more_selectors s ss) = IsLawfulSelector s × AreLawfulSelectors ss

  pub IsLawfulSelector : SelectorShape → Type 0
  IsLawfulSelector (index es) = AreLawfulIndices es
  IsLawfulSelector (field x) = Unit {0}

  -- the expressions of an index are one or more
  pub AreLawfulIndices : ExprShapes → Type 0
  AreLawfulIndices no_exprs = ⊥
  AreLawfulIndices (more_exprs e es) = IsLawfulExpr e × AreLawfulExprs es

  pub AreLawfulExprs : ExprShapes → Type 0
  AreLawfulExprs no_exprs = Unit {0}
  AreLawfulExprs (more_exprs e es) = IsLawfulExpr e × AreLawfulExprs es

  pub AreLawfulActuals : ActualShapes → Type 0
  AreLawfulActuals no_actuals = Unit {0}
  AreLawfulActuals (more_actuals a args) = IsLawfulActual a × AreLawfulActuals args

  pub IsLawfulActual : ActualShape → Type 0
  IsLawfulActual (actual e) = IsLawfulExpr e
  IsLawfulActual (actual_width e width) = IsLawfulExpr e × IsLawfulExpr width
