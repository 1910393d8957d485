-- The words of the rules of expressions.
use Rattle.std.proofs.Common.{refl}
use Rattle.std.specs.Prelude.{ℕ, Bool, if◌then◌else◌, List, [], ◌∷◌, Option, Some, None}
use Rattle.pfc_base.specs.declared.places.Place.{Place}
use Rattle.pfc_tree.specs.declared.tree.Sign.{Sign}
use Rattle.pfc_tree.specs.trees.Exprs.{ExprTree, SimpleTree, SummandTrees, TermTree, MultiplierTrees, FactorTree, DesigTree, SelectorTree, SelectorTrees}
use Rattle.pfc_tree.specs.trees.Exprs.{ExprTrees, ActualTree, ActualTrees, plain, related, sum, no_summands, more_summands, product, no_multipliers}
use Rattle.pfc_tree.specs.trees.Exprs.{more_multipliers, number, literal, negation, paren, applied, desig, index, field, no_selectors, more_selectors, no_exprs}
use Rattle.pfc_tree.specs.trees.Exprs.{more_exprs, actual, actual_width, no_actuals, more_actuals}
use Rattle.pfc_tree.specs.Symbols.{Text}
use Rattle.pfc_types.specs.Types.{Forms}
use Rattle.pfc_types.specs.Scopes.{meaning_of}
use Rattle.pfc_types.specs.declared.types.TypeId.{TypeId}
use Rattle.pfc_types.specs.declared.view.Found.{Found}
use Rattle.pfc_types.specs.rules.Kinds.{a_variable, variable_type}
use Rattle.pfc_types.specs.rules.Routines.{Want, called_function, nothing_called}
use Rattle.pfc_types.specs.rules.Expressions.{Env, find, expr_place, add_operand, mul_operand, operated, signed_type, signed_rule, element_type, index_rule}
use Rattle.pfc_types.specs.rules.Expressions.{field_rule, use_rules, no_selector, no_actual, is_variable, expr_type, term_type, factor_type, selected_by}
use Rattle.pfc_types.specs.rules.Expressions.{first_type, broken_expr, broken_simple, broken_summands, broken_term, broken_multipliers, broken_factor}
use Rattle.pfc_types.specs.rules.Expressions.{broken_selectors, broken_selector, broken_indexes, broken_actuals, broken_actual, broken_wanted, broken_desig}
use Rattle.pfc_refusals.proofs.Worded.{Worded, no_rule, ◌&◌, rule, broken_rule}
use Rattle.pfc_refusals.proofs.Small.{name_worded, want_worded, site_worded}

signed_worded : (sign : Option (Sign × Place)) (t : Option TypeId) → Worded (signed_rule sign t)
signed_worded None t = no_rule
signed_worded (Some sign) t = rule _ _ _ refl

index_worded : (forms : Forms) (t i : Option TypeId) (p : Place) → Worded (index_rule forms t i p)
index_worded forms None i p = no_rule
index_worded forms (Some t) i p = rule _ _ _ refl

field_worded : (forms : Forms) (t : Option TypeId) (x : Text) (p : Place) → Worded (field_rule forms t x p)
field_worded forms None x p = no_rule
field_worded forms (Some t) x p = rule _ _ _ refl

use_worded : (env : Env) (found : Option Found) (alone bare : Bool) (p : Place) → Worded (use_rules env found alone bare p)
use_worded env None alone bare p = broken_rule _ _ refl
use_worded env (Some found) alone bare p = rule _ _ _ refl & rule _ _ _ refl & rule _ _ _ refl

mutual
  pub expr_worded : (env : Env) (e : ExprTree) → Worded (broken_expr env e)
  expr_worded env (plain s p) = simple_worded env s
  expr_worded env (related s r u p) = simple_worded env s & simple_worded env u & rule _ _ _ refl & rule _ _ _ refl & rule _ _ _ refl

  simple_worded : (env : Env) (s : SimpleTree) → Worded (broken_simple env s)
  simple_worded env (sum sign first rest) =
      term_worded env first & signed_worded sign (term_type env first) & summands_worded env (signed_type sign (term_type env first)) rest

  summands_worded : (env : Env) (t : Option TypeId) (rest : SummandTrees) → Worded (broken_summands env t rest)
  summands_worded env t no_summands = no_rule
  summands_worded env t (more_summands op u rest) =
      term_worded env u & rule _ _ _ refl & summands_worded env (operated (add_operand op.0) t (term_type env u)) rest

  term_worded : (env : Env) (t : TermTree) → Worded (broken_term env t)
  term_worded env (product f rest) = factor_worded env f & multipliers_worded env (factor_type env f) rest

  multipliers_worded : (env : Env) (t : Option TypeId) (rest : MultiplierTrees) → Worded (broken_multipliers env t rest)
  multipliers_worded env t no_multipliers = no_rule
  multipliers_worded env t (more_multipliers op f rest) =
      factor_worded env f & rule _ _ _ refl & multipliers_worded env (operated (mul_operand op.0) t (factor_type env f)) rest

  factor_worded : (env : Env) (f : FactorTree) → Worded (broken_factor env f)
  factor_worded env (number n p) = no_rule
  factor_worded env (literal x p) = rule _ _ _ refl
  factor_worded env (negation f p) = factor_worded env f & rule _ _ _ refl
  factor_worded env (paren e p) = expr_worded env e
  factor_worded env (applied (desig x ss q) args p) =
      let found = find env x in
      let callee = (if no_selector ss then called_function env.state.blocks (meaning_of found) else nothing_called) in
      use_worded env found (no_selector ss) (no_actual args) q
      & selectors_worded env (variable_type (meaning_of found)) ss
      & rule _ _ _ refl
      & actuals_worded env None callee.known callee.wants args
      & site_worded env.around callee.site (first_type env args) q

  pub selectors_worded : (env : Env) (t : Option TypeId) (ss : SelectorTrees) → Worded (broken_selectors env t ss)
  selectors_worded env t no_selectors = no_rule
  selectors_worded env t (more_selectors s ss) = selector_worded env t s & selectors_worded env (selected_by env t s) ss

  selector_worded : (env : Env) (t : Option TypeId) (s : SelectorTree) → Worded (broken_selector env t s)
  selector_worded env t (index es p) = indexes_worded env t es p
  selector_worded env t (field x p) = field_worded env.state.forms t x p

  indexes_worded : (env : Env) (t : Option TypeId) (es : ExprTrees) (p : Place) → Worded (broken_indexes env t es p)
  indexes_worded env t no_exprs p = no_rule
  indexes_worded env t (more_exprs e es) p =
      expr_worded env e
      & index_worded env.state.forms t (expr_type env e) p
      & indexes_worded env (element_type env.state.forms t (expr_type env e)) es p

  pub actuals_worded : (env : Env) (ending : Option ℕ) (known : Bool) (ws : List Want) (args : ActualTrees) → Worded (broken_actuals env ending known ws args)
  actuals_worded env ending known ws no_actuals = no_rule
  actuals_worded env ending known [] (more_actuals a rest) = actual_worded env known a & actuals_worded env ending known [] rest
  actuals_worded env ending known (w ∷ ws) (more_actuals a rest) =
      actual_worded env known a & wanted_worded env ending w a & actuals_worded env ending known ws rest

  actual_worded : (env : Env) (known : Bool) (a : ActualTree) → Worded (broken_actual env known a)
  actual_worded env known (actual e) = expr_worded env e
  actual_worded env known (actual_width e width) = expr_worded env e & expr_worded env width & rule _ _ _ refl

  wanted_worded : (env : Env) (ending : Option ℕ) (w : Want) (a : ActualTree) → Worded (broken_wanted env ending w a)
  wanted_worded env ending w (actual e) = want_worded env.state.forms w (is_variable env ending e) (expr_type env e) (expr_place e)
  wanted_worded env ending w (actual_width e width) = want_worded env.state.forms w (is_variable env ending e) (expr_type env e) (expr_place e)

pub desig_worded : (env : Env) (d : DesigTree) → Worded (broken_desig env d)
desig_worded env (desig x ss p) = name_worded a_variable (meaning_of (find env x)) p & selectors_worded env (variable_type (meaning_of (find env x))) ss
