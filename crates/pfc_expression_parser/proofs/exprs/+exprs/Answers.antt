use Rattle.std.proofs.Common.{◌≡◌, rules, arith, refl, ap, sym, ◌∙◌, Ok}
use Rattle.pfc_base.specs.declared.places.Place.{Place}
use Rattle.std.proofs.lemmas.Result.{err_from_is_err_and}
use Rattle.pfc_tree.specs.trees.Exprs.{related}
use Rattle.pfc_tree.specs.views.Exprs.{simple_view}
use Rattle.pfc_grammar.specs.placed.Reading.{many, bind, peek, pure}
use Rattle.pfc_grammar.specs.placed.Exprs.{summand_behind, multiplier_behind, actual_with, simple_with, factor_at, expr_with, expr_from}
use Rattle.pfc_token_parser.proofs.Branches.{branch_taken, bind_given, bind_halts, viewed}
use Rattle.pfc_token_parser.proofs.Loops.{turning_begins, turning_goes, turning_ends, turning_halts}
use Rattle.pfc_expression_parser.proofs.Levels.{expr_below, factor_plain, factor_deep, factor_not, many_ended}
use Rattle.pfc_expression_parser.proofs.exprs.+exprs.Goals as goal

pub expr-returns-in-Some-clause-gives : goal.expr-returns-in-Some-clause-gives
expr-returns-in-Some-clause-gives t c =
    rw (expr_below c.args.levels c.in-Some.below c.args.tokens.now (omega (arith, c.in-Some.ensures))) c.relating.ensures.gives

pub factor-returns-in_default-clause-gives : goal.factor-returns-in_default-clause-gives
factor-returns-in_default-clause-gives t c =
    rw (factor_plain c.args.levels c.args.tokens.now (search (rules, c.in_default.ensures.taken))) c.plain_factor.ensures.gives

pub factor-returns-in-Some-checked_sub-clause-gives : goal.factor-returns-in-Some-checked_sub-clause-gives
factor-returns-in-Some-checked_sub-clause-gives t c =
    rw (factor_not c.args.levels c.in-Some-checked_sub.below _ _ _
    (omega (arith, c.in-Some-checked_sub.ensures)) c.in-Some.ensures.taken) c.negation_behind.ensures.gives

pub factor-returns-in-None-clause-gives : goal.factor-returns-in-None-clause-gives
factor-returns-in-None-clause-gives t c = factor_deep _ _ _ _ (omega (arith, c.in-None.ensures)) c.in-Some.ensures.taken

pub relating-returns-in-Some-clause-gives : goal.relating-returns-in-Some-clause-gives
unfolding expr_with expr_from peek
relating-returns-in-Some-clause-gives t c =
    let f = factor_at c.args.levels in
    let goes : expr_with f c.args.tokens.now ≡ bind (simple_with f)
    (λ right. pure (related (simple_view c.in_ok-left.left) c.in-Some.op right c.first_place-place.result)) c.in-Some.behind.now =
    bind_given _ _ _ _ _ _ (ap (λ (p : Place). Ok (p, c.args.tokens.now)) (sym c.first_place-place.ensures))
    (bind_given _ _ _ _ _ _ c.in_ok-left.ensures.gives (branch_taken _ _ _ _ _ _ c.in-Some.ensures.taken)) in
    rw goes c.related.ensures.gives

pub actual-returns-in-Some-clause-gives : goal.actual-returns-in-Some-clause-gives
unfolding actual_with
actual-returns-in-Some-clause-gives t c =
    rw (bind_given _ _ _ _ _ _ c.in_ok-value.ensures.gives (branch_taken _ _ _ _ _ _ c.in-Some.ensures.taken)) c.wide.ensures.gives

pub summands-returns-in-None-clause-gives : goal.summands-returns-in-None-clause-gives
summands-returns-in-None-clause-gives t c = many_ended _ _ _ (search (rules, c.in-None.ensures.taken)) ∙ search (rules, c.new.ensures.items)

pub multipliers-returns-in-None-clause-gives : goal.multipliers-returns-in-None-clause-gives
multipliers-returns-in-None-clause-gives t c = many_ended _ _ _ (search (rules, c.in-None.ensures.taken)) ∙ search (rules, c.new.ensures.items)

pub selectors-returns-in-None-clause-gives : goal.selectors-returns-in-None-clause-gives
selectors-returns-in-None-clause-gives t c = many_ended _ _ _ (search (rules, c.in-None.ensures.taken)) ∙ search (rules, c.new.ensures.items)

pub some_summands-loop-op-init : goal.some_summands-loop-op-init
unfolding many
some_summands-loop-op-init t c = search (rules, turning_begins)

pub some_summands-returns-in_err-item-clause-gives : goal.some_summands-returns-in_err-item-clause-gives
unfolding summand_behind
some_summands-returns-in_err-item-clause-gives t c = let p = err_from_is_err_and c.from_residual.result c.from_residual.ensures.1 in rw (p.1, p.2)
    (turning_halts _ _ _ _ _ _ _ _ c.loop-op.invariant.turning c.in-Some.ensures.taken (bind_halts _ _ _ _ c.in_err-item.ensures.gives))

pub some_summands-loop-op-preserved : goal.some_summands-loop-op-preserved
unfolding summand_behind pure
some_summands-loop-op-preserved t c = record {
  shorter = omega (arith, c.in-Some.ensures.kept, c.in_ok-item.ensures.kept);
  turning = turning_goes _ _ _ _ _ _ _ _ _ _ c.loop-op.invariant.turning c.in-Some.ensures.taken (bind_given _ _ _ _ _ _ c.in_ok-item.ensures.gives refl)
      (omega (arith, c.in_ok-item.ensures.kept)) (viewed _ _ _ _ (search rules));
}

pub some_summands-returns-clause-gives : goal.some_summands-returns-clause-gives
some_summands-returns-clause-gives t c = turning_ends _ _ _ _ _ c.loop-op.invariant.turning (search (rules, c.in_default.ensures.taken))

pub some_multipliers-loop-op-init : goal.some_multipliers-loop-op-init
unfolding many
some_multipliers-loop-op-init t c = search (rules, turning_begins)

pub some_multipliers-returns-in_err-item-clause-gives : goal.some_multipliers-returns-in_err-item-clause-gives
unfolding multiplier_behind
some_multipliers-returns-in_err-item-clause-gives t c = let p = err_from_is_err_and c.from_residual.result c.from_residual.ensures.1 in rw (p.1, p.2)
    (turning_halts _ _ _ _ _ _ _ _ c.loop-op.invariant.turning c.in-Some.ensures.taken (bind_halts _ _ _ _ c.in_err-item.ensures.gives))

pub some_multipliers-loop-op-preserved : goal.some_multipliers-loop-op-preserved
unfolding multiplier_behind pure
some_multipliers-loop-op-preserved t c = record {
  shorter = omega (arith, c.in-Some.ensures.kept, c.in_ok-item.ensures.kept);
  turning = turning_goes _ _ _ _ _ _ _ _ _ _ c.loop-op.invariant.turning c.in-Some.ensures.taken (bind_given _ _ _ _ _ _ c.in_ok-item.ensures.gives refl)
      (omega (arith, c.in_ok-item.ensures.kept)) (viewed _ _ _ _ (search rules));
}

pub some_multipliers-returns-clause-gives : goal.some_multipliers-returns-clause-gives
some_multipliers-returns-clause-gives t c = turning_ends _ _ _ _ _ c.loop-op.invariant.turning (search (rules, c.in_default.ensures.taken))

pub some_selectors-loop-index-init : goal.some_selectors-loop-index-init
unfolding many
some_selectors-loop-index-init t c = search (rules, turning_begins)

pub some_selectors-returns-in_err-item-clause-gives : goal.some_selectors-returns-in_err-item-clause-gives
some_selectors-returns-in_err-item-clause-gives t c = let p = err_from_is_err_and c.from_residual.result c.from_residual.ensures.1 in rw (p.1, p.2)
    (turning_halts _ _ _ _ _ _ _ _ c.loop-index.invariant.turning c.in-Some.ensures.taken c.in_err-item.ensures.gives)

pub some_selectors-loop-index-preserved : goal.some_selectors-loop-index-preserved
some_selectors-loop-index-preserved t c = record {
  shorter = omega (arith, c.in-Some.ensures.kept, c.in_ok-item.ensures.kept);
  turning = turning_goes _ _ _ _ _ _ _ _ _ _ c.loop-index.invariant.turning c.in-Some.ensures.taken c.in_ok-item.ensures.gives
      (omega (arith, c.in_ok-item.ensures.kept)) (viewed _ _ _ _ (search rules));
}

pub some_selectors-returns-clause-gives : goal.some_selectors-returns-clause-gives
some_selectors-returns-clause-gives t c = turning_ends _ _ _ _ _ c.loop-index.invariant.turning (search (rules, c.in_default.ensures.taken))

pub exprs_behind-loop-behind-init : goal.exprs_behind-loop-behind-init
exprs_behind-loop-behind-init t c = search (rules, turning_begins)

pub exprs_behind-returns-in_err-item-clause-gives : goal.exprs_behind-returns-in_err-item-clause-gives
exprs_behind-returns-in_err-item-clause-gives t c = let p = err_from_is_err_and c.from_residual-in_err-item.result c.from_residual-in_err-item.ensures.1 in rw
    (p.1, p.2) (turning_halts _ _ _ _ _ _ _ _ c.loop-behind.invariant.turning c.in-Some.ensures.taken c.in_err-item.ensures.gives)

pub exprs_behind-loop-behind-preserved : goal.exprs_behind-loop-behind-preserved
exprs_behind-loop-behind-preserved t c = record {
  shorter = omega (arith, c.in-Some.ensures.kept, c.in_ok-item.ensures.kept);
  turning = turning_goes _ _ _ _ _ _ _ _ _ _ c.loop-behind.invariant.turning c.in-Some.ensures.taken c.in_ok-item.ensures.gives
      (omega (arith, c.in_ok-item.ensures.kept)) (viewed _ _ _ _ (search rules));
}

pub exprs_behind-returns-clause-gives : goal.exprs_behind-returns-clause-gives
exprs_behind-returns-clause-gives t c = turning_ends _ _ _ _ _ c.loop-behind.invariant.turning (search (rules, c.in_default.ensures.taken))

pub actuals_behind-loop-behind-init : goal.actuals_behind-loop-behind-init
actuals_behind-loop-behind-init t c = search (rules, turning_begins)

pub actuals_behind-returns-in_err-item-clause-gives : goal.actuals_behind-returns-in_err-item-clause-gives
actuals_behind-returns-in_err-item-clause-gives t c = let p = err_from_is_err_and c.from_residual-in_err-item.result c.from_residual-in_err-item.ensures.1 in rw
    (p.1, p.2) (turning_halts _ _ _ _ _ _ _ _ c.loop-behind.invariant.turning c.in-Some.ensures.taken c.in_err-item.ensures.gives)

pub actuals_behind-loop-behind-preserved : goal.actuals_behind-loop-behind-preserved
actuals_behind-loop-behind-preserved t c = record {
  shorter = omega (arith, c.in-Some.ensures.kept, c.in_ok-item.ensures.kept);
  turning = turning_goes _ _ _ _ _ _ _ _ _ _ c.loop-behind.invariant.turning c.in-Some.ensures.taken c.in_ok-item.ensures.gives
      (omega (arith, c.in_ok-item.ensures.kept)) (viewed _ _ _ _ (search rules));
}

pub actuals_behind-returns-clause-gives : goal.actuals_behind-returns-clause-gives
actuals_behind-returns-clause-gives t c = turning_ends _ _ _ _ _ c.loop-behind.invariant.turning (search (rules, c.in_default.ensures.taken))
