-- The levels go down, and within a level the functions call in one order. What the lists of operands, selectors, indices and
-- arguments come to from here.
use Rattle.std.proofs.Common.{◌+◌, ◌*◌, ◌≤◌, length, map, [], ◌∷◌}
use Rattle.pfc_base.specs.declared.sign.TheConstants.{COMMA}
use Rattle.pfc_tree.specs.views.Exprs.{expr_view, term_view, factor_view, selector_view, actual_view}
use Rattle.pfc_grammar.specs.Heads.{as_sign, as_add_op, as_mul_op, as_selector}
use Rattle.pfc_grammar.specs.placed.Reading.{many, many_onto}
use Rattle.pfc_grammar.specs.placed.Exprs.{selector_behind, actual_with, multiplier_behind, summand_behind, factor_at, expr_at}
use Rattle.pfc_token_parser.proofs.Loops.{Turning}
use Rattle.pfc_expression_parser.proofs.exprs.+exprs.Given as goal

abbrev pub decreases-expr : goal.decreases-expr
decreases-expr l = 40 * l.levels

abbrev pub decreases-boxed_expr : goal.decreases-boxed_expr
decreases-boxed_expr l = 40 * l.levels + 1

abbrev pub decreases-relating : goal.decreases-relating
decreases-relating l = 40 * l.levels + 35

abbrev pub decreases-related : goal.decreases-related
decreases-related l = 40 * l.levels + 34

abbrev pub decreases-simple : goal.decreases-simple
decreases-simple l = 40 * l.levels + 33

abbrev pub decreases-summands : goal.decreases-summands
decreases-summands l = 40 * l.levels + 32

abbrev pub decreases-some_summands : goal.decreases-some_summands
decreases-some_summands l = 40 * l.levels + 31

abbrev pub decreases-term : goal.decreases-term
decreases-term l = 40 * l.levels + 29

abbrev pub decreases-multipliers : goal.decreases-multipliers
decreases-multipliers l = 40 * l.levels + 28

abbrev pub decreases-some_multipliers : goal.decreases-some_multipliers
decreases-some_multipliers l = 40 * l.levels + 27

abbrev pub decreases-factor : goal.decreases-factor
decreases-factor l = 40 * l.levels + 25

abbrev pub decreases-negation_behind : goal.decreases-negation_behind
decreases-negation_behind l = 40 * l.levels + 26

abbrev pub decreases-plain_factor : goal.decreases-plain_factor
decreases-plain_factor l = 40 * l.levels + 24

abbrev pub decreases-paren_behind : goal.decreases-paren_behind
decreases-paren_behind l = 40 * l.levels + 23

abbrev pub decreases-applied_behind : goal.decreases-applied_behind
decreases-applied_behind l = 40 * l.levels + 23

abbrev pub decreases-desig_behind : goal.decreases-desig_behind
decreases-desig_behind l = 40 * l.levels + 20

abbrev pub decreases-selectors : goal.decreases-selectors
decreases-selectors l = 40 * l.levels + 19

abbrev pub decreases-some_selectors : goal.decreases-some_selectors
decreases-some_selectors l = 40 * l.levels + 18

abbrev pub decreases-selector_behind : goal.decreases-selector_behind
decreases-selector_behind l = 40 * l.levels + 17

abbrev pub decreases-exprs_behind : goal.decreases-exprs_behind
decreases-exprs_behind l = 40 * l.levels + 16

abbrev pub decreases-actuals : goal.decreases-actuals
decreases-actuals l = 40 * l.levels + 15

abbrev pub decreases-actuals_within : goal.decreases-actuals_within
decreases-actuals_within l = 40 * l.levels + 14

abbrev pub decreases-actuals_behind : goal.decreases-actuals_behind
decreases-actuals_behind l = 40 * l.levels + 13

abbrev pub decreases-actual : goal.decreases-actual
decreases-actual l = 40 * l.levels + 12

abbrev pub decreases-wide : goal.decreases-wide
decreases-wide l = 40 * l.levels + 11

abbrev pub invariant-some_summands-loop-op : goal.invariant-some_summands-loop-op
invariant-some_summands-loop-op l = record {
  shorter : length l.rest ≤ length l.tokens;
  turning : Turning as_add_op (summand_behind (factor_at l.levels)) (map (λ u. (u.0, term_view u.1)) l.summands.items) l.rest
      (many as_add_op (summand_behind (factor_at l.levels)) l.tokens);
}

abbrev pub decreases-some_summands-loop-op : goal.decreases-some_summands-loop-op
decreases-some_summands-loop-op l = length l.rest

abbrev pub invariant-some_multipliers-loop-op : goal.invariant-some_multipliers-loop-op
invariant-some_multipliers-loop-op l = record {
  shorter : length l.rest ≤ length l.tokens;
  turning : Turning as_mul_op (multiplier_behind (factor_at l.levels)) (map (λ m. (m.0, factor_view m.1)) l.multipliers.items) l.rest
      (many as_mul_op (multiplier_behind (factor_at l.levels)) l.tokens);
}

abbrev pub decreases-some_multipliers-loop-op : goal.decreases-some_multipliers-loop-op
decreases-some_multipliers-loop-op l = length l.rest

abbrev pub invariant-some_selectors-loop-index : goal.invariant-some_selectors-loop-index
invariant-some_selectors-loop-index l = record {
  shorter : length l.rest ≤ length l.tokens;
  turning : Turning as_selector (λ o. selector_behind (expr_at l.levels) o.0 o.1) (map selector_view l.selectors.items) l.rest
      (many as_selector (λ o. selector_behind (expr_at l.levels) o.0 o.1) l.tokens);
}

abbrev pub decreases-some_selectors-loop-index : goal.decreases-some_selectors-loop-index
decreases-some_selectors-loop-index l = length l.rest

abbrev pub invariant-exprs_behind-loop-behind : goal.invariant-exprs_behind-loop-behind
invariant-exprs_behind-loop-behind l = record {
  shorter : length l.rest ≤ length l.tokens;
  turning : Turning (as_sign COMMA) (λ t. expr_at l.levels) (map expr_view l.exprs.items) l.rest
      (many_onto (expr_view l.fn.first ∷ []) (as_sign COMMA) (λ t. expr_at l.levels) l.tokens);
}

abbrev pub decreases-exprs_behind-loop-behind : goal.decreases-exprs_behind-loop-behind
decreases-exprs_behind-loop-behind l = length l.rest

abbrev pub invariant-actuals_behind-loop-behind : goal.invariant-actuals_behind-loop-behind
invariant-actuals_behind-loop-behind l = record {
  shorter : length l.rest ≤ length l.tokens;
  turning : Turning (as_sign COMMA) (λ t. actual_with (expr_at l.levels)) (map actual_view l.args.items) l.rest (many_onto (actual_view l.fn.first ∷ [])
      (as_sign COMMA) (λ t. actual_with (expr_at l.levels)) l.tokens);
}

abbrev pub decreases-actuals_behind-loop-behind : goal.decreases-actuals_behind-loop-behind
decreases-actuals_behind-loop-behind l = length l.rest
