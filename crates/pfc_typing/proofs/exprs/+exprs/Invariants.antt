-- Each loop: the type so far, with what is still to come, makes the type of the whole.
use Rattle.std.proofs.Common.{◌≡◌, ◌<◌, None, ◌&&◌, drop}
use Rattle.pfc_tree.specs.views.Exprs.{summands_view, multipliers_view, selectors_view, exprs_view, actuals_view}
use Rattle.pfc_types.specs.rules.Expressions.{summed, multiplied, selected, indexed, args_fit, first_type}
use Rattle.pfc_phrases.specs.Views.{env_view, wants_view}
use Rattle.pfc_typing.proofs.exprs.+exprs.Given as goal

abbrev pub invariant-summed-loop-op : goal.invariant-summed-loop-op
invariant-summed-loop-op l =
    summed (env_view l.env) l.left (summands_view (drop l.op-index l.us)) ≡ summed (env_view l.env) l.initial.left (summands_view l.us)

abbrev pub invariant-multiplied-loop-op : goal.invariant-multiplied-loop-op
invariant-multiplied-loop-op l =
    multiplied (env_view l.env) l.left (multipliers_view (drop l.op-index l.ms)) ≡ multiplied (env_view l.env) l.initial.left (multipliers_view l.ms)

abbrev pub invariant-selected_type-loop-s : goal.invariant-selected_type-loop-s
invariant-selected_type-loop-s l =
    selected (env_view l.env) l.part (selectors_view (drop l.s-index l.ss)) ≡ selected (env_view l.env) l.initial.part (selectors_view l.ss)

abbrev pub invariant-indexed-loop-e : goal.invariant-indexed-loop-e
invariant-indexed-loop-e l =
    indexed (env_view l.env) l.part (exprs_view (drop l.e-index l.es)) ≡ indexed (env_view l.env) l.initial.part (exprs_view l.es)

abbrev pub invariant-arguments-loop-i : goal.invariant-arguments-loop-i
invariant-arguments-loop-i l = record {
  fit : (l.fit && args_fit (env_view l.env) (wants_view l.wants) (actuals_view (drop l.i l.args))) ≡ args_fit (env_view l.env)
      (wants_view l.initial.wants) (actuals_view l.args);
  none : l.i ≡ 0 → l.first ≡ None;
  first : 0 < l.i → l.first ≡ first_type (env_view l.env) (actuals_view l.args);
}
