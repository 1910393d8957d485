-- The readers of expressions look no further than at the symbol on which they end.
use Rattle.std.proofs.Common.{ℕ, zero, suc, Bool, true, false, Option}
use Rattle.pfc_tree.specs.Symbols.{Text}
use Rattle.pfc_grammar.proofs.Local.{Local, local_pure, local_stop, local_stop_deep, local_bind, local_branch, local_choose, local_take}
use Rattle.pfc_grammar.proofs.LocalLoops.{local_many, local_list, local_some, local_list_end}
use Rattle.pfc_grammar.specs.Reading.{Reader}
use Rattle.pfc_base.specs.declared.word.TheConstants.{NOT}
use Rattle.pfc_tree.specs.declared.tree.Sign as plus_or_minus
use Rattle.pfc_tree.specs.declared.tree.AddOp.{AddOp}
use Rattle.pfc_tree.specs.declared.tree.MulOp.{MulOp}
use Rattle.pfc_tree.specs.shapes.Exprs.{ExprShape, FactorShape}
use Rattle.pfc_grammar.specs.Heads.{as_word, is_word, begins_expr}
use Rattle.pfc_grammar.specs.grammar.Exprs.{selector_behind, desig_behind, desig_with, actual_with, actuals_with, paren_behind, applied_behind, plain_factor}
use Rattle.pfc_grammar.specs.grammar.Exprs.{factor_with, multiplier_behind, term_with, summand_behind, simple_behind, simple_with, expr_with, no_expr}
use Rattle.pfc_grammar.specs.grammar.Exprs.{factor_at, expr_at}

pub ruleset localities = (local_pure, local_stop, local_bind, local_branch, local_choose, local_take, local_many, local_list, local_some, local_list_end)

module _ (e : Reader ExprShape) (he : Local e) where
  local_selector : (b : Bool) → Local (selector_behind e b)
  unfolding selector_behind
  local_selector true = search localities depth 12
  local_selector false = search localities depth 12

  pub local_desig_behind : (x : Text) → Local (desig_behind e x)
  unfolding desig_behind
  local_desig_behind x = search (localities, local_selector) depth 12

  pub local_desig : Local (desig_with e)
  unfolding desig_with
  local_desig = search (localities, local_desig_behind) depth 12

  local_actual : Local (actual_with e)
  unfolding actual_with
  local_actual = search localities depth 12

  pub local_actuals : Local (actuals_with e)
  unfolding actuals_with
  local_actuals = search (localities, local_actual) depth 12

  local_paren : Local (paren_behind e)
  unfolding paren_behind
  local_paren = search localities depth 12

  local_applied : (x : Text) → Local (applied_behind e x)
  unfolding applied_behind
  local_applied x = search (localities, local_desig_behind, local_actuals) depth 12

  pub local_plain_factor : Local (plain_factor e)
  unfolding plain_factor
  local_plain_factor = search (localities, local_paren, local_applied) depth 12

module _ (f : Reader FactorShape) (hf : Local f) where
  local_multiplier : (op : MulOp) → Local (multiplier_behind f op)
  unfolding multiplier_behind
  local_multiplier op = search localities depth 12

  local_term : Local (term_with f)
  unfolding term_with
  local_term = search (localities, local_multiplier) depth 12

  local_summand : (op : AddOp) → Local (summand_behind f op)
  unfolding summand_behind
  local_summand op = search (localities, local_term) depth 12

  local_simple_behind : (sign : Option plus_or_minus.Sign) → Local (simple_behind f sign)
  unfolding simple_behind
  local_simple_behind sign = search (localities, local_term, local_summand) depth 12

  local_simple : Local (simple_with f)
  unfolding simple_with
  local_simple = search (localities, local_simple_behind) depth 12

  pub local_expr_with : Local (expr_with f)
  unfolding expr_with
  local_expr_with = search (localities, local_simple) depth 12

  pub local_factor_with : (e : Reader ExprShape) → Local e → Local (factor_with f e)
  unfolding factor_with
  local_factor_with e he = local_branch (as_word NOT) (λ t. local_bind hf (λ x. local_pure _)) (local_plain_factor e he)

-- Whatever the number of levels.
local_no_expr : Local no_expr
unfolding no_expr
local_no_expr = local_choose begins_expr local_stop_deep local_stop

pub local_factor_at : (n : ℕ) → Local (factor_at n)
unfolding factor_at
local_factor_at zero = local_choose (is_word NOT) local_stop_deep (local_plain_factor no_expr local_no_expr)
local_factor_at (suc n) = local_factor_with (factor_at n) (local_factor_at n) (expr_with (factor_at n)) (local_expr_with (factor_at n) (local_factor_at n))

pub local_expr_at : (n : ℕ) → Local (expr_at n)
unfolding expr_at
local_expr_at zero = local_no_expr
local_expr_at (suc n) = local_expr_with (factor_at n) (local_factor_at n)
