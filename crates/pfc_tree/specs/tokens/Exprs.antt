-- What expressions write. Each clause is one line of the grammar, which stands above it.
use Rattle.std.specs.Prelude.{Option, Some, None, List, [], ◌∷◌, ◌++◌}
use Rattle.pfc_base.specs.declared.tokens.Kind.TheVariants.{Word, Sign, Name, Number, Literal}
use Rattle.pfc_base.specs.declared.word.TheConstants.{AND, DIV, MOD, NOT, OR}
use Rattle.pfc_base.specs.declared.sign.TheConstants.{PLUS, MINUS, STAR, EQUAL, NOT_EQUAL, LESS, LESS_EQUAL, GREATER, GREATER_EQUAL, OPEN_PAREN, CLOSE_PAREN}
use Rattle.pfc_base.specs.declared.sign.TheConstants.{OPEN_BRACKET, CLOSE_BRACKET, DOT, COMMA, COLON}
use Rattle.pfc_tree.specs.declared.tree.Sign as plus_or_minus
use Rattle.pfc_tree.specs.declared.tree.Sign.TheVariants.{Plus, Minus}
use Rattle.pfc_tree.specs.declared.tree.Relation.{Relation}
use Rattle.pfc_tree.specs.declared.tree.Relation.TheVariants.{Eq, Ne, Lt, Le, Gt, Ge}
use Rattle.pfc_tree.specs.declared.tree.AddOp.{AddOp}
use Rattle.pfc_tree.specs.declared.tree.AddOp.TheVariants.{Add, Sub, Or}
use Rattle.pfc_tree.specs.declared.tree.MulOp.{MulOp}
use Rattle.pfc_tree.specs.declared.tree.MulOp.TheVariants.{Mul, Div, Mod, And}
use Rattle.pfc_tree.specs.Symbols.{Symbol}
use Rattle.pfc_tree.specs.shapes.Exprs.{ExprShape, SimpleShape, SummandShapes, TermShape, MultiplierShapes, FactorShape, DesigShape, SelectorShape}
use Rattle.pfc_tree.specs.shapes.Exprs.{SelectorShapes, ExprShapes, ActualShape, ActualShapes, plain, related, sum, no_summands, more_summands, product}
use Rattle.pfc_tree.specs.shapes.Exprs.{no_multipliers, more_multipliers, number, literal, negation, paren, applied, desig, index, field, no_selectors}
use Rattle.pfc_tree.specs.shapes.Exprs.{more_selectors, no_exprs, more_exprs, actual, actual_width, no_actuals, more_actuals}

-- "+" | "-"
abbrev pub sign_symbol : plus_or_minus.Sign → Symbol
sign_symbol Plus = Sign PLUS
sign_symbol Minus = Sign MINUS

-- ["+" | "-"]
abbrev pub sign_tokens : Option plus_or_minus.Sign → List Symbol
sign_tokens None = []
sign_tokens (Some s) = sign_symbol s ∷ []

-- "=" | "<>" | "<" | "<=" | ">" | ">="
abbrev pub relation_symbol : Relation → Symbol
relation_symbol Eq = Sign EQUAL
relation_symbol Ne = Sign NOT_EQUAL
relation_symbol Lt = Sign LESS
relation_symbol Le = Sign LESS_EQUAL
relation_symbol Gt = Sign GREATER
relation_symbol Ge = Sign GREATER_EQUAL

-- "+" | "-" | "or"
abbrev pub add_symbol : AddOp → Symbol
add_symbol Add = Sign PLUS
add_symbol Sub = Sign MINUS
add_symbol Or = Word OR

-- "*" | "div" | "mod" | "and"
abbrev pub mul_symbol : MulOp → Symbol
mul_symbol Mul = Sign STAR
mul_symbol Div = Word DIV
mul_symbol Mod = Word MOD
mul_symbol And = Word AND

abbrev mutual
  -- expr = simple [relation simple]
  pub expr_tokens : ExprShape → List Symbol
  expr_tokens (plain s) = simple_tokens s
  expr_tokens (related s r t) = simple_tokens s ++ relation_symbol r ∷ simple_tokens t

  -- simple = ["+" | "-"] term {("+" | "-" | "or") term}
  pub simple_tokens : SimpleShape → List Symbol
  simple_tokens (sum sign t us) = sign_tokens sign ++ term_tokens t ++ summands_tokens us

  pub summands_tokens : SummandShapes → List Symbol
  summands_tokens no_summands = []
  summands_tokens (more_summands op t us) = add_symbol op ∷ term_tokens t ++ summands_tokens us

  -- term = factor {("*" | "div" | "mod" | "and") factor}
  pub term_tokens : TermShape → List Symbol
  term_tokens (product f ms) = factor_tokens f ++ multipliers_tokens ms

  pub multipliers_tokens : MultiplierShapes → List Symbol
  multipliers_tokens no_multipliers = []
  multipliers_tokens (more_multipliers op f ms) = mul_symbol op ∷ factor_tokens f ++ multipliers_tokens ms

  -- factor = number | literal | "not" factor | "(" expr ")" | desig [actuals]
  pub factor_tokens : FactorShape → List Symbol
  factor_tokens (number n) = Number n ∷ []
  factor_tokens (literal x) = Literal x ∷ []
  factor_tokens (negation f) = Word NOT ∷ factor_tokens f
  factor_tokens (paren e) = Sign OPEN_PAREN ∷ expr_tokens e ++ Sign CLOSE_PAREN ∷ []
  factor_tokens (applied d args) = desig_tokens d ++ actuals_tokens args

  -- desig = name {"[" expr {"," expr} "]" | "." name}
  pub desig_tokens : DesigShape → List Symbol
  desig_tokens (desig x ss) = Name x ∷ selectors_tokens ss

  pub selectors_tokens : SelectorShapes → List Symbol
  selectors_tokens no_selectors = []
  selectors_tokens (more_selectors s ss) = selector_tokens s ++ selectors_tokens ss

  pub selector_tokens : SelectorShape → List Symbol
  selector_tokens (index es) = Sign OPEN_BRACKET ∷ exprs_tokens es ++ Sign CLOSE_BRACKET ∷ []
  selector_tokens (field x) = Sign DOT ∷ Name x ∷ []

  -- expr {"," expr}
  pub exprs_tokens : ExprShapes → List Symbol
  exprs_tokens no_exprs = []
  exprs_tokens (more_exprs e es) = expr_tokens e ++ comma_exprs_tokens es

  pub comma_exprs_tokens : ExprShapes → List Symbol
  comma_exprs_tokens no_exprs = []
  comma_exprs_tokens (more_exprs e es) = Sign COMMA ∷ expr_tokens e ++ comma_exprs_tokens es

  -- actuals = "(" expr [":" expr] {"," expr [":" expr]} ")"
  pub actuals_tokens : ActualShapes → List Symbol
  actuals_tokens no_actuals = []
  actuals_tokens (more_actuals a args) = Sign OPEN_PAREN ∷ actual_tokens a ++ comma_actuals_tokens args

  pub comma_actuals_tokens : ActualShapes → List Symbol
  comma_actuals_tokens no_actuals = Sign CLOSE_PAREN ∷ []
  comma_actuals_tokens (more_actuals a args) = Sign COMMA ∷ actual_tokens a ++ comma_actuals_tokens args

  pub actual_tokens : ActualShape → List Symbol
  actual_tokens (actual e) = expr_tokens e
  actual_tokens (actual_width e width) = expr_tokens e ++ Sign COLON ∷ expr_tokens width
