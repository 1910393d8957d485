-- The instructions so far, with those of what is still to come, are those of the whole.
use Rattle.std.proofs.Common.{◌≡◌, ◌+◌, drop}
use Rattle.pfc_tree.specs.views.Exprs.{actuals_view}
use Rattle.pfc_phrases.specs.Views.{env_view}
use Rattle.pfc_code_size.specs.Expressions.{args_size}
use Rattle.pfc_code_size.proofs.exprs.pass.Given as goal

abbrev pub invariant-loop-a : goal.invariant-loop-a
invariant-loop-a l =
    l.n + args_size l.env.scopes.now (env_view l.env) l.left (actuals_view (drop l.a-index l.args)) ≡ l.fn.count + args_size l.env.scopes.now
    (env_view l.env) l.fn.formals (actuals_view l.args)
