-- The readers of expressions. Each is a line of the grammar, which stands above it; `e` reads an expression one level
-- deeper and `f` a factor.
use Rattle.std.specs.Prelude.{ℕ, zero, suc, List, [], ◌∷◌, Bool, true, false, Option, Some, None}
use Rattle.pfc_base.specs.declared.word.TheConstants.{NOT}
use Rattle.pfc_base.specs.declared.sign.TheConstants.{OPEN_PAREN, CLOSE_PAREN, CLOSE_BRACKET, COMMA, COLON}
use Rattle.pfc_tree.specs.declared.tree.Sign as plus_or_minus
use Rattle.pfc_tree.specs.declared.tree.AddOp.{AddOp}
use Rattle.pfc_tree.specs.declared.tree.MulOp.{MulOp}
use Rattle.pfc_tree.specs.Symbols.{Text}
use Rattle.pfc_tree.specs.shapes.Exprs.{ExprShape, SimpleShape, SummandShapes, TermShape, MultiplierShapes, FactorShape, DesigShape, SelectorShape}
use Rattle.pfc_tree.specs.shapes.Exprs.{SelectorShapes, ExprShapes, ActualShape, ActualShapes, plain, related, sum, no_summands, more_summands, product}
use Rattle.pfc_tree.specs.shapes.Exprs.{no_multipliers, more_multipliers, number, literal, negation, paren, applied, desig, index, field, no_selectors}
use Rattle.pfc_tree.specs.shapes.Exprs.{more_selectors, no_exprs, more_exprs, actual, actual_width, no_actuals, more_actuals}
use Rattle.pfc_grammar.specs.Reading.{Reader, pure, ◌>>=◌, stop, stop_deep, branch, choose, take_as, many, list_of}
use Rattle.pfc_grammar.specs.Heads.{as_word, as_sign, as_name, as_number, as_literal, as_plus_minus, as_relation, as_add_op, as_mul_op, as_selector, is_word}
use Rattle.pfc_grammar.specs.Heads.{begins_expr}

-- lists as the shapes have them
abbrev pub exprs_of : List ExprShape → ExprShapes
exprs_of [] = no_exprs
exprs_of (e ∷ es) = more_exprs e (exprs_of es)

abbrev pub selectors_of : List SelectorShape → SelectorShapes
selectors_of [] = no_selectors
selectors_of (s ∷ ss) = more_selectors s (selectors_of ss)

abbrev pub actuals_of : List ActualShape → ActualShapes
actuals_of [] = no_actuals
actuals_of (a ∷ args) = more_actuals a (actuals_of args)

abbrev pub multipliers_of : List (MulOp × FactorShape) → MultiplierShapes
multipliers_of [] = no_multipliers
multipliers_of (m ∷ ms) = more_multipliers m.0 m.1 (multipliers_of ms)

abbrev pub summands_of : List (AddOp × TermShape) → SummandShapes
summands_of [] = no_summands
summands_of (u ∷ us) = more_summands u.0 u.1 (summands_of us)

-- behind `[`, which is true: expr {"," expr} "]"; behind ".": name
unfoldable pub selector_behind : Reader ExprShape → Bool → Reader SelectorShape
selector_behind e true = do
  es ← list_of (as_sign COMMA) e
  t ← take_as (as_sign CLOSE_BRACKET)
  pure (index (exprs_of es))
selector_behind e false = do
  x ← take_as as_name
  pure (field x)

-- behind its name x: {"[" expr {"," expr} "]" | "." name}
unfoldable pub desig_behind : Reader ExprShape → Text → Reader DesigShape
desig_behind e x = do
  ss ← many as_selector (selector_behind e)
  pure (desig x (selectors_of ss))

-- desig = name {"[" expr {"," expr} "]" | "." name}
unfoldable pub desig_with : Reader ExprShape → Reader DesigShape
desig_with e = do
  x ← take_as as_name
  desig_behind e x

-- expr [":" expr]
unfoldable pub actual_with : Reader ExprShape → Reader ActualShape
actual_with e = do
  value ← e
  branch (as_sign COLON) (λ t. do
    width ← e
    pure (actual_width value width)) (pure (actual value))

-- [actuals], where actuals = "(" expr [":" expr] {"," expr [":" expr]} ")"
unfoldable pub actuals_with : Reader ExprShape → Reader ActualShapes
actuals_with e = branch (as_sign OPEN_PAREN) (λ t. do
  args ← list_of (as_sign COMMA) (actual_with e)
  u ← take_as (as_sign CLOSE_PAREN)
  pure (actuals_of args)) (pure no_actuals)

-- behind `(`: expr ")"
unfoldable pub paren_behind : Reader ExprShape → Reader FactorShape
paren_behind e = do
  x ← e
  t ← take_as (as_sign CLOSE_PAREN)
  pure (paren x)

-- behind its name x: desig [actuals]
unfoldable pub applied_behind : Reader ExprShape → Text → Reader FactorShape
applied_behind e x = do
  d ← desig_behind e x
  args ← actuals_with e
  pure (applied d args)

-- a factor without `not`: number | literal | "(" expr ")" | desig [actuals]
unfoldable pub plain_factor : Reader ExprShape → Reader FactorShape
plain_factor e = branch as_number (λ n. pure (number n)) (branch as_literal (λ x. pure (literal x)) (branch (as_sign OPEN_PAREN) (λ t. paren_behind e)
    (branch as_name (applied_behind e) stop)))

-- factor = number | literal | "not" factor | "(" expr ")" | desig [actuals]
unfoldable pub factor_with : Reader FactorShape → Reader ExprShape → Reader FactorShape
factor_with f e = branch (as_word NOT) (λ t. do
  x ← f
  pure (negation x)) (plain_factor e)

-- behind an operator: a factor
unfoldable pub multiplier_behind : Reader FactorShape → MulOp → Reader (MulOp × FactorShape)
multiplier_behind f op = do
  x ← f
  pure (op, x)

-- term = factor {("*" | "div" | "mod" | "and") factor}
unfoldable pub term_with : Reader FactorShape → Reader TermShape
term_with f = do
  x ← f
  ms ← many as_mul_op (multiplier_behind f)
  pure (product x (multipliers_of ms))

-- behind an operator: a term
unfoldable pub summand_behind : Reader FactorShape → AddOp → Reader (AddOp × TermShape)
summand_behind f op = do
  x ← term_with f
  pure (op, x)

-- behind its sign: term {("+" | "-" | "or") term}
unfoldable pub simple_behind : Reader FactorShape → Option plus_or_minus.Sign → Reader SimpleShape
simple_behind f sign = do
  t ← term_with f
  us ← many as_add_op (summand_behind f)
  pure (sum sign t (summands_of us))

-- simple = ["+" | "-"] term {("+" | "-" | "or") term}
unfoldable pub simple_with : Reader FactorShape → Reader SimpleShape
simple_with f = branch as_plus_minus (λ s. simple_behind f (Some s)) (simple_behind f None)

-- expr = simple [("=" | "<>" | "<" | "<=" | ">" | ">=") simple]
unfoldable pub expr_with : Reader FactorShape → Reader ExprShape
expr_with f = do
  left ← simple_with f
  branch as_relation (λ r. do
    right ← simple_with f
    pure (related left r right)) (pure (plain left))

-- where no level is left for an expression
unfoldable pub no_expr : Reader ExprShape
no_expr = choose begins_expr stop_deep stop

-- a factor with n levels below it: a `not` takes one, and an expression in it takes one
unfoldable pub factor_at : ℕ → Reader FactorShape
factor_at zero = choose (is_word NOT) stop_deep (plain_factor no_expr)
factor_at (suc n) = factor_with (factor_at n) (expr_with (factor_at n))

-- an expression where n levels are left, of which it takes one
unfoldable pub expr_at : ℕ → Reader ExprShape
expr_at zero = no_expr
expr_at (suc n) = expr_with (factor_at n)
