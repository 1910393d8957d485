-- Expressions without places.
use Rattle.std.specs.Prelude.{ℤ, Option}
use Rattle.pfc_tree.specs.Symbols.{Text}
use Rattle.pfc_tree.specs.declared.tree.Sign.{Sign}
use Rattle.pfc_tree.specs.declared.tree.Relation.{Relation}
use Rattle.pfc_tree.specs.declared.tree.AddOp.{AddOp}
use Rattle.pfc_tree.specs.declared.tree.MulOp.{MulOp}

mutual
  -- an expression
  pub data ExprShape : Type 0 where
    -- a + b
    plain : SimpleShape → ExprShape
    -- a + b < c
    related : SimpleShape → Relation → SimpleShape → ExprShape

  -- a sum
  pub data SimpleShape : Type 0 where
    -- -a + b or c
    sum : Option Sign → TermShape → SummandShapes → SimpleShape

  -- the terms behind the first, each with its operator
  pub data SummandShapes : Type 0 where
    no_summands : SummandShapes
    more_summands : AddOp → TermShape → SummandShapes → SummandShapes

  -- a product
  pub data TermShape : Type 0 where
    -- a * b and c
    product : FactorShape → MultiplierShapes → TermShape

  -- the factors behind the first, each with its operator
  pub data MultiplierShapes : Type 0 where
    no_multipliers : MultiplierShapes
    more_multipliers : MulOp → FactorShape → MultiplierShapes → MultiplierShapes

  -- a factor
  pub data FactorShape : Type 0 where
    -- 10
    number : ℤ → FactorShape
    -- 'a'
    literal : Text → FactorShape
    -- not b
    negation : FactorShape → FactorShape
    -- (a + b)
    paren : ExprShape → FactorShape
    -- a[i].x, or f (1, 2)
    applied : DesigShape → ActualShapes → FactorShape

  -- a name with its selectors
  pub data DesigShape : Type 0 where
    -- a[i].x
    desig : Text → SelectorShapes → DesigShape

  -- a selector
  pub data SelectorShape : Type 0 where
    -- [i, j]
    index : ExprShapes → SelectorShape
    -- .x
    field : Text → SelectorShape

  -- selectors
  pub data SelectorShapes : Type 0 where
    no_selectors : SelectorShapes
    more_selectors : SelectorShape → SelectorShapes → SelectorShapes

  -- expressions
  pub data ExprShapes : Type 0 where
    no_exprs : ExprShapes
    more_exprs : ExprShape → ExprShapes → ExprShapes

  -- an argument
  pub data ActualShape : Type 0 where
    -- x
    actual : ExprShape → ActualShape
    -- x: 8
    actual_width : ExprShape → ExprShape → ActualShape

  -- arguments
  pub data ActualShapes : Type 0 where
    no_actuals : ActualShapes
    more_actuals : ActualShape → ActualShapes → ActualShapes
