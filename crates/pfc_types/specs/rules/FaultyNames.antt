-- Which parts use a faulty name: a name in view whose own declaration has no type. The rules speak of no such name, but of its
-- declaration, where a rule is broken.
use Rattle.std.specs.Prelude.{Bool, true, false, not, ◌&&◌, ◌||◌, List, [], ◌∷◌, Option, Some, None, is_some}
use Rattle.pfc_tree.specs.trees.Exprs.{ExprTree, SimpleTree, SummandTrees, TermTree, MultiplierTrees, FactorTree, DesigTree, SelectorTree, SelectorTrees}
use Rattle.pfc_tree.specs.trees.Exprs.{ExprTrees, ActualTree, ActualTrees, plain, related, sum, no_summands, more_summands, product, no_multipliers}
use Rattle.pfc_tree.specs.trees.Exprs.{more_multipliers, number, literal, negation, paren, applied, desig, index, field, no_selectors, more_selectors, no_exprs}
use Rattle.pfc_tree.specs.trees.Exprs.{more_exprs, actual, actual_width, no_actuals, more_actuals}
use Rattle.pfc_tree.specs.declared.tree.Constant.{Constant}
use Rattle.pfc_tree.specs.declared.tree.Constant.TheVariants.{Number, Named as NamedConstant, Literal}
use Rattle.pfc_tree.specs.declared.tree.Range.{Range}
use Rattle.pfc_tree.specs.trees.Types.{TypeTree, VarTree, VarTrees, GroupTree, named, channel, array, fields, var_item, no_vars, more_vars}
use Rattle.pfc_types.specs.Blocks.{Blocks, sub_at}
use Rattle.pfc_types.specs.Scopes.{Names, Level, look}
use Rattle.pfc_types.specs.declared.scope.Meaning.{Meaning}
use Rattle.pfc_types.specs.declared.scope.Meaning.TheVariants.{Sub, Faulty}
use Rattle.pfc_types.specs.declared.view.Found.{Found}
use Rattle.pfc_types.specs.declared.heads.Formal.{Formal}
use Rattle.pfc_types.specs.declared.heads.SubHead.{SubHead}
use Rattle.pfc_types.specs.rules.Declarations.{whole_sort}
use Rattle.pfc_types.specs.rules.Expressions.{Env, find}

-- ## Names

abbrev pub all_typed : List Formal → Bool
all_typed [] = true
all_typed (f ∷ fs) = is_some f.t && all_typed fs

-- each parameter of a heading has a type, and so has a function's result
abbrev pub is_whole_head : SubHead → Bool
is_whole_head head = all_typed head.formals && whole_sort head.sort

-- the name's own declaration has no type
abbrev pub is_faulty : Blocks → Meaning → Bool
is_faulty b Faulty = true
is_faulty b (Sub n) = not (is_whole_head (sub_at b n))
is_faulty b m = false

-- of a name that is in view or not
abbrev pub is_faulty_found : Blocks → Option Found → Bool
is_faulty_found b None = false
is_faulty_found b (Some found) = is_faulty b found.meaning

-- a name that should stand for a constant or a type
abbrev pub stands_faulty : Option Meaning → Bool
stands_faulty (Some Faulty) = true
stands_faulty m = false

-- ## Constants, types and parameters as they are written

-- whether a name that stands in a constant is faulty
abbrev pub constant_uses_faulty : List Names → List Level → Constant → Bool
constant_uses_faulty scopes view (Number sign n p) = false
constant_uses_faulty scopes view (NamedConstant sign x p) = stands_faulty (look scopes view x)
constant_uses_faulty scopes view (Literal x p) = false

abbrev pub ranges_use_faulty : List Names → List Level → List Range → Bool
ranges_use_faulty scopes view [] = false
ranges_use_faulty scopes view (r ∷ rs) =
    (constant_uses_faulty scopes view r.low || constant_uses_faulty scopes view r.high) || ranges_use_faulty scopes view rs

-- whether a name that stands in a type is faulty
abbrev mutual
  pub type_uses_faulty : List Names → List Level → TypeTree → Bool
  type_uses_faulty scopes view (named x p) = stands_faulty (look scopes view x)
  type_uses_faulty scopes view (channel t p) = type_uses_faulty scopes view t
  type_uses_faulty scopes view (array rs t p) = ranges_use_faulty scopes view rs || type_uses_faulty scopes view t
  type_uses_faulty scopes view (fields vs last p) = items_use_faulty scopes view vs

  pub items_use_faulty : List Names → List Level → VarTrees → Bool
  items_use_faulty scopes view no_vars = false
  items_use_faulty scopes view (more_vars v vs) = item_uses_faulty scopes view v || items_use_faulty scopes view vs

  pub item_uses_faulty : List Names → List Level → VarTree → Bool
  item_uses_faulty scopes view (var_item xs t) = type_uses_faulty scopes view t

-- whether the name of the type of a group of parameters is faulty
abbrev pub group_uses_faulty : List Names → List Level → GroupTree → Bool
group_uses_faulty scopes view g = stands_faulty (look scopes view g.form.0)

-- ## Expressions

-- whether a name that stands in an expression is faulty
abbrev mutual
  pub expr_uses_faulty : Env → ExprTree → Bool
  expr_uses_faulty env (plain s p) = simple_uses_faulty env s
  expr_uses_faulty env (related s r u p) = simple_uses_faulty env s || simple_uses_faulty env u

  pub simple_uses_faulty : Env → SimpleTree → Bool
  simple_uses_faulty env (sum sign first rest) = term_uses_faulty env first || summands_use_faulty env rest

  pub summands_use_faulty : Env → SummandTrees → Bool
  summands_use_faulty env no_summands = false
  summands_use_faulty env (more_summands op u rest) = term_uses_faulty env u || summands_use_faulty env rest

  pub term_uses_faulty : Env → TermTree → Bool
  term_uses_faulty env (product f rest) = factor_uses_faulty env f || multipliers_use_faulty env rest

  pub multipliers_use_faulty : Env → MultiplierTrees → Bool
  multipliers_use_faulty env no_multipliers = false
  multipliers_use_faulty env (more_multipliers op f rest) = factor_uses_faulty env f || multipliers_use_faulty env rest

  pub factor_uses_faulty : Env → FactorTree → Bool
  factor_uses_faulty env (number n p) = false
  factor_uses_faulty env (literal x p) = false
  factor_uses_faulty env (negation f p) = factor_uses_faulty env f
  factor_uses_faulty env (paren e p) = expr_uses_faulty env e
  factor_uses_faulty env (applied d args p) = desig_uses_faulty env d || actuals_use_faulty env args

  pub desig_uses_faulty : Env → DesigTree → Bool
  desig_uses_faulty env (desig x ss p) = is_faulty_found env.state.blocks (find env x) || selectors_use_faulty env ss

  pub selectors_use_faulty : Env → SelectorTrees → Bool
  selectors_use_faulty env no_selectors = false
  selectors_use_faulty env (more_selectors s ss) = selector_uses_faulty env s || selectors_use_faulty env ss

  pub selector_uses_faulty : Env → SelectorTree → Bool
  selector_uses_faulty env (index es p) = exprs_use_faulty env es
  selector_uses_faulty env (field x p) = false

  pub exprs_use_faulty : Env → ExprTrees → Bool
  exprs_use_faulty env no_exprs = false
  exprs_use_faulty env (more_exprs e es) = expr_uses_faulty env e || exprs_use_faulty env es

  pub actuals_use_faulty : Env → ActualTrees → Bool
  actuals_use_faulty env no_actuals = false
  actuals_use_faulty env (more_actuals a rest) = actual_uses_faulty env a || actuals_use_faulty env rest

  pub actual_uses_faulty : Env → ActualTree → Bool
  actual_uses_faulty env (actual e) = expr_uses_faulty env e
  actual_uses_faulty env (actual_width e width) = expr_uses_faulty env e || expr_uses_faulty env width
