-- Expressions with their places, as plain values.
use Rattle.std.specs.Prelude.{ℤ, Option}
use Rattle.pfc_base.specs.declared.places.Place.{Place}
use Rattle.pfc_tree.specs.Symbols.{Text}
use Rattle.pfc_tree.specs.declared.tree.Sign.{Sign}
use Rattle.pfc_tree.specs.declared.tree.Relation.{Relation}
use Rattle.pfc_tree.specs.declared.tree.AddOp.{AddOp}
use Rattle.pfc_tree.specs.declared.tree.MulOp.{MulOp}

mutual
  -- an expression
  pub data ExprTree : Type 0 where
    -- a + b
    plain : SimpleTree → Place → ExprTree
    -- a + b < c
    related : SimpleTree → (Relation × Place) → SimpleTree → Place → ExprTree

  -- a sum
  pub data SimpleTree : Type 0 where
    -- -a + b or c
    sum : Option (Sign × Place) → TermTree → SummandTrees → SimpleTree

  -- the terms behind the first, each with its operator
  pub data SummandTrees : Type 0 where
    no_summands : SummandTrees
    more_summands : (AddOp × Place) → TermTree → SummandTrees → SummandTrees

  -- a product
  pub data TermTree : Type 0 where
    -- a * b and c
    product : FactorTree → MultiplierTrees → TermTree

  -- the factors behind the first, each with its operator
  pub data MultiplierTrees : Type 0 where
    no_multipliers : MultiplierTrees
    more_multipliers : (MulOp × Place) → FactorTree → MultiplierTrees → MultiplierTrees

  -- a factor
  pub data FactorTree : Type 0 where
    -- 10
    number : ℤ → Place → FactorTree
    -- 'a'
    literal : Text → Place → FactorTree
    -- not b
    negation : FactorTree → Place → FactorTree
    -- (a + b)
    paren : ExprTree → Place → FactorTree
    -- a[i].x, or f (1, 2)
    applied : DesigTree → ActualTrees → Place → FactorTree

  -- a name with its selectors
  pub data DesigTree : Type 0 where
    -- a[i].x
    desig : Text → SelectorTrees → Place → DesigTree

  -- a selector
  pub data SelectorTree : Type 0 where
    -- [i, j]
    index : ExprTrees → Place → SelectorTree
    -- .x
    field : Text → Place → SelectorTree

  -- selectors
  pub data SelectorTrees : Type 0 where
    no_selectors : SelectorTrees
    more_selectors : SelectorTree → SelectorTrees → SelectorTrees

  -- expressions
  pub data ExprTrees : Type 0 where
    no_exprs : ExprTrees
    more_exprs : ExprTree → ExprTrees → ExprTrees

  -- an argument
  pub data ActualTree : Type 0 where
    -- x
    actual : ExprTree → ActualTree
    -- x: 8
    actual_width : ExprTree → ExprTree → ActualTree

  -- arguments
  pub data ActualTrees : Type 0 where
    no_actuals : ActualTrees
    more_actuals : ActualTree → ActualTrees → ActualTrees
