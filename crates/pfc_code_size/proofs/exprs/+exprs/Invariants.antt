-- Each loop: the instructions so far, with those of what is still to come, are those of the whole.
use Rattle.std.proofs.Common.{◌≡◌, ◌+◌, drop}
use Rattle.pfc_tree.specs.views.Exprs.{summands_view, multipliers_view, selectors_view, exprs_view, actuals_view}
use Rattle.pfc_phrases.specs.Views.{env_view}
use Rattle.pfc_code_size.specs.Parameters.{formals_of}
use Rattle.pfc_code_size.specs.Expressions.{summands_size, multipliers_size, selectors_size, indices_size, args_size}
use Rattle.pfc_code_size.proofs.exprs.+exprs.Given as goal

abbrev pub invariant-summands-loop-u : goal.invariant-summands-loop-u
invariant-summands-loop-u l =
    l.n + summands_size l.env.scopes.now (env_view l.env) (summands_view (drop l.u-index l.us)) ≡ l.fn.count +
    summands_size l.env.scopes.now (env_view l.env) (summands_view l.us)

abbrev pub invariant-multipliers-loop-f : goal.invariant-multipliers-loop-f
invariant-multipliers-loop-f l =
    l.n + multipliers_size l.env.scopes.now (env_view l.env) (multipliers_view (drop l.f-index l.ms)) ≡ l.fn.count + multipliers_size l.env.scopes.now
    (env_view l.env) (multipliers_view l.ms)

abbrev pub invariant-selectors-loop-s : goal.invariant-selectors-loop-s
invariant-selectors-loop-s l =
    l.n + selectors_size l.env.scopes.now (env_view l.env) (selectors_view (drop l.s-index l.ss)) ≡ l.fn.count +
    selectors_size l.env.scopes.now (env_view l.env) (selectors_view l.ss)

abbrev pub invariant-indices-loop-e : goal.invariant-indices-loop-e
invariant-indices-loop-e l =
    l.n + indices_size l.env.scopes.now (env_view l.env) (exprs_view (drop l.e-index l.es)) ≡ l.fn.count +
    indices_size l.env.scopes.now (env_view l.env) (exprs_view l.es)

abbrev pub invariant-arguments-loop-a : goal.invariant-arguments-loop-a
invariant-arguments-loop-a l =
    l.sum + args_size l.env.scopes.now (env_view l.env) l.left (actuals_view (drop l.a-index l.args))
    ≡ l.fn.count + args_size l.env.scopes.now (env_view l.env) (formals_of l.env.scopes.now l.fn.m) (actuals_view l.args)
