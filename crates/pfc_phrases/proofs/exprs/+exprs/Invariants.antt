-- Each loop: what is found, with what is still to come, is what is to be found.
use Rattle.std.proofs.Common.{◌≡◌, ◌<◌, None, ◌&&◌, drop}
use Rattle.pfc_tree.specs.views.Exprs.{summands_view, multipliers_view, selectors_view, exprs_view, actuals_view}
use Rattle.pfc_types.specs.rules.Expressions.{summed, multiplied, selected, indexed, args_fit, first_type, broken_summands, broken_multipliers}
use Rattle.pfc_types.specs.rules.Expressions.{broken_selectors, broken_indexes, broken_actuals}
use Rattle.pfc_phrases.specs.Found.{noted}
use Rattle.pfc_phrases.specs.Views.{env_view, wants_view}
use Rattle.pfc_phrases.proofs.exprs.+exprs.Given as goal

abbrev pub invariant-summands-loop-op : goal.invariant-summands-loop-op
invariant-summands-loop-op l = record {
  t : summed (env_view l.env) l.left (summands_view (drop l.op-index l.us)) ≡ summed (env_view l.env) l.initial.left (summands_view l.us);
  best : noted l.best (broken_summands (env_view l.env) l.left (summands_view (drop l.op-index l.us))) ≡ noted l.initial.best
      (broken_summands (env_view l.env) l.initial.left (summands_view l.us));
}

abbrev pub invariant-multipliers-loop-op : goal.invariant-multipliers-loop-op
invariant-multipliers-loop-op l = record {
  t : multiplied (env_view l.env) l.left (multipliers_view (drop l.op-index l.ms)) ≡ multiplied (env_view l.env) l.initial.left (multipliers_view l.ms);
  best : noted l.best (broken_multipliers (env_view l.env) l.left (multipliers_view (drop l.op-index l.ms))) ≡ noted l.initial.best
      (broken_multipliers (env_view l.env) l.initial.left (multipliers_view l.ms));
}

abbrev pub invariant-selectors-loop-s : goal.invariant-selectors-loop-s
invariant-selectors-loop-s l = record {
  t : selected (env_view l.env) l.part (selectors_view (drop l.s-index l.ss)) ≡ selected (env_view l.env) l.initial.part (selectors_view l.ss);
  best : noted l.best (broken_selectors (env_view l.env) l.part (selectors_view (drop l.s-index l.ss))) ≡ noted l.initial.best
      (broken_selectors (env_view l.env) l.initial.part (selectors_view l.ss));
}

abbrev pub invariant-indexes-loop-e : goal.invariant-indexes-loop-e
invariant-indexes-loop-e l = record {
  t : indexed (env_view l.env) l.part (exprs_view (drop l.e-index l.es)) ≡ indexed (env_view l.env) l.initial.part (exprs_view l.es);
  best : noted l.best (broken_indexes (env_view l.env) l.part (exprs_view (drop l.e-index l.es)) l.place) ≡ noted l.initial.best
      (broken_indexes (env_view l.env) l.initial.part (exprs_view l.es) l.place);
}

abbrev pub invariant-actuals-loop-i : goal.invariant-actuals-loop-i
invariant-actuals-loop-i l = record {
  fit : (l.fit && args_fit (env_view l.env) (wants_view l.wants) (actuals_view (drop l.i l.args))) ≡ args_fit (env_view l.env)
      (wants_view l.initial.wants) (actuals_view l.args);
  none : l.i ≡ 0 → l.first ≡ None;
  first : 0 < l.i → l.first ≡ first_type (env_view l.env) (actuals_view l.args);
  best : noted l.best (broken_actuals (env_view l.env) l.ending l.known (wants_view l.wants) (actuals_view (drop l.i l.args))) ≡ noted l.initial.best
      (broken_actuals (env_view l.env) l.ending l.known (wants_view l.initial.wants) (actuals_view l.args));
}
