-- The readers of expressions from tokens, with their places; `e` reads an expression one level deeper and `f` a factor.
use Rattle.std.specs.Prelude.{ℕ, zero, suc, Bool, true, false, Option, Some, None}
use Rattle.pfc_base.specs.declared.places.Place.{Place}
use Rattle.pfc_base.specs.declared.word.TheConstants.{NOT}
use Rattle.pfc_base.specs.declared.sign.TheConstants.{OPEN_PAREN, CLOSE_PAREN, CLOSE_BRACKET, COMMA, COLON}
use Rattle.pfc_tree.specs.declared.tree.Sign as plus_or_minus
use Rattle.pfc_tree.specs.declared.tree.AddOp.{AddOp}
use Rattle.pfc_tree.specs.declared.tree.MulOp.{MulOp}
use Rattle.pfc_tree.specs.Symbols.{Text}
use Rattle.pfc_tree.specs.trees.Exprs.{ExprTree, SimpleTree, TermTree, FactorTree, DesigTree, SelectorTree, ActualTree, ActualTrees, plain, related, sum}
use Rattle.pfc_tree.specs.trees.Exprs.{product, number, literal, negation, paren, applied, desig, index, field, actual, actual_width, no_actuals}
use Rattle.pfc_tree.specs.views.Exprs.{exprs_of, selectors_of, actuals_of, multipliers_of, summands_of}
use Rattle.pfc_grammar.specs.Heads.{as_word, as_sign, as_name, as_number, as_literal, as_plus_minus, as_relation, as_add_op, as_mul_op, as_selector, is_word}
use Rattle.pfc_grammar.specs.Heads.{begins_expr}
use Rattle.pfc_grammar.specs.placed.Reading.{Reader, pure, ◌>>=◌, stop, stop_deep, peek, branch, choose, take_as, many, list_of}

-- behind `[`, which is true and stands at p: expr {"," expr} "]"; behind ".": name
unfoldable pub selector_behind : Reader ExprTree → Bool → Place → Reader SelectorTree
selector_behind e true p = do
  es ← list_of (as_sign COMMA) e
  t ← take_as (as_sign CLOSE_BRACKET)
  pure (index (exprs_of es) p)
selector_behind e false p = do
  x ← take_as as_name
  pure (field x.0 x.1)

-- behind its name x: {"[" expr {"," expr} "]" | "." name}
unfoldable pub desig_behind : Reader ExprTree → Text × Place → Reader DesigTree
desig_behind e x = do
  ss ← many as_selector (λ o. selector_behind e o.0 o.1)
  pure (desig x.0 (selectors_of ss) x.1)

-- desig = name {"[" expr {"," expr} "]" | "." name}
unfoldable pub desig_with : Reader ExprTree → Reader DesigTree
desig_with e = do
  x ← take_as as_name
  desig_behind e x

-- expr [":" expr]
unfoldable pub actual_with : Reader ExprTree → Reader ActualTree
actual_with e = do
  value ← e
  branch (as_sign COLON) (λ t. do
    width ← e
    pure (actual_width value width)) (pure (actual value))

-- [actuals], where actuals = "(" expr [":" expr] {"," expr [":" expr]} ")"
unfoldable pub actuals_with : Reader ExprTree → Reader ActualTrees
actuals_with e = branch (as_sign OPEN_PAREN) (λ t. do
  args ← list_of (as_sign COMMA) (actual_with e)
  u ← take_as (as_sign CLOSE_PAREN)
  pure (actuals_of args)) (pure no_actuals)

-- behind `(`, which stands at p: expr ")"
unfoldable pub paren_behind : Reader ExprTree → Place → Reader FactorTree
paren_behind e p = do
  x ← e
  t ← take_as (as_sign CLOSE_PAREN)
  pure (paren x p)

-- behind its name x: desig [actuals]
unfoldable pub applied_behind : Reader ExprTree → Text × Place → Reader FactorTree
applied_behind e x = do
  d ← desig_behind e x
  args ← actuals_with e
  pure (applied d args x.1)

-- a factor without `not`: number | literal | "(" expr ")" | desig [actuals]
unfoldable pub plain_factor : Reader ExprTree → Reader FactorTree
plain_factor e = branch as_number (λ n. pure (number n.0 n.1)) (branch as_literal (λ x. pure (literal x.0 x.1))
    (branch (as_sign OPEN_PAREN) (λ t. paren_behind e t.1) (branch as_name (applied_behind e) stop)))

-- factor = number | literal | "not" factor | "(" expr ")" | desig [actuals]
unfoldable pub factor_with : Reader FactorTree → Reader ExprTree → Reader FactorTree
factor_with f e = branch (as_word NOT) (λ t. do
  x ← f
  pure (negation x t.1)) (plain_factor e)

-- behind an operator: a factor
unfoldable pub multiplier_behind : Reader FactorTree → MulOp × Place → Reader ((MulOp × Place) × FactorTree)
multiplier_behind f op = do
  x ← f
  pure (op, x)

-- term = factor {("*" | "div" | "mod" | "and") factor}
unfoldable pub term_with : Reader FactorTree → Reader TermTree
term_with f = do
  x ← f
  ms ← many as_mul_op (multiplier_behind f)
  pure (product x (multipliers_of ms))

-- behind an operator: a term
unfoldable pub summand_behind : Reader FactorTree → AddOp × Place → Reader ((AddOp × Place) × TermTree)
summand_behind f op = do
  x ← term_with f
  pure (op, x)

-- behind its sign: term {("+" | "-" | "or") term}
unfoldable pub simple_behind : Reader FactorTree → Option (plus_or_minus.Sign × Place) → Reader SimpleTree
simple_behind f sign = do
  t ← term_with f
  us ← many as_add_op (summand_behind f)
  pure (sum sign t (summands_of us))

-- simple = ["+" | "-"] term {("+" | "-" | "or") term}
unfoldable pub simple_with : Reader FactorTree → Reader SimpleTree
simple_with f = branch as_plus_minus (λ s. simple_behind f (Some s)) (simple_behind f None)

-- behind nothing of it, at p: simple [("=" | "<>" | "<" | "<=" | ">" | ">=") simple]
unfoldable pub expr_from : Reader FactorTree → Place → Reader ExprTree
expr_from f p = do
  left ← simple_with f
  branch as_relation (λ r. do
    right ← simple_with f
    pure (related left r right p)) (pure (plain left p))

-- expr = simple [("=" | "<>" | "<" | "<=" | ">" | ">=") simple]
unfoldable pub expr_with : Reader FactorTree → Reader ExprTree
expr_with f = do
  p ← peek
  expr_from f p

-- where no level is left for an expression
unfoldable pub no_expr : Reader ExprTree
no_expr = choose begins_expr stop_deep stop

-- a factor with n levels below it: a `not` takes one, and an expression in it takes one
unfoldable pub factor_at : ℕ → Reader FactorTree
factor_at zero = choose (is_word NOT) stop_deep (plain_factor no_expr)
factor_at (suc n) = factor_with (factor_at n) (expr_with (factor_at n))

-- an expression where n levels are left, of which it takes one
unfoldable pub expr_at : ℕ → Reader ExprTree
expr_at zero = no_expr
expr_at (suc n) = expr_with (factor_at n)
