-- Each loop: what is put so far, with the code of what is still to come, is what is to be put.
use Rattle.std.proofs.Common.{◌≡◌, ◌++◌, drop}
use Rattle.pfc_tree.specs.views.Exprs.{summands_view, multipliers_view, selectors_view, exprs_view, actuals_view}
use Rattle.pfc_expression_code.specs.Lists.{ways_in, summands_list, multipliers_list, selectors_list, indices_list, args_list}
use Rattle.pfc_expression_code.proofs.exprs.+exprs.Given as goal

abbrev pub invariant-summands-loop-op : goal.invariant-summands-loop-op
invariant-summands-loop-op l =
    l.code ++ summands_list (ways_in l.site) (summands_view (drop l.op-index l.us)) ≡ l.fn.code ++ summands_list (ways_in l.site) (summands_view l.us)

abbrev pub invariant-multipliers-loop-op : goal.invariant-multipliers-loop-op
invariant-multipliers-loop-op l =
    l.code ++ multipliers_list (ways_in l.site) (multipliers_view (drop l.op-index l.ms))
    ≡ l.fn.code ++ multipliers_list (ways_in l.site) (multipliers_view l.ms)

abbrev pub invariant-selectors-loop-s : goal.invariant-selectors-loop-s
invariant-selectors-loop-s l =
    l.code ++ selectors_list (ways_in l.site) l.behind (selectors_view (drop l.s-index l.ss))
    ≡ l.fn.code ++ selectors_list (ways_in l.site) l.fn.t (selectors_view l.ss)

abbrev pub invariant-indices-loop-e : goal.invariant-indices-loop-e
invariant-indices-loop-e l =
    l.code ++ indices_list (ways_in l.site) l.behind (exprs_view (drop l.e-index l.es)) ≡ l.fn.code ++ indices_list (ways_in l.site) l.fn.t (exprs_view l.es)

abbrev pub invariant-pass-loop-a : goal.invariant-pass-loop-a
invariant-pass-loop-a l =
    l.code ++ args_list (ways_in l.site) l.left (actuals_view (drop l.a-index l.args))
    ≡ l.fn.code ++ args_list (ways_in l.site) l.fn.formals (actuals_view l.args)
