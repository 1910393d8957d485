use Rattle.std.proofs.Common.{◌≡◌, ◌+◌, drop}
use Rattle.pfc_tree.specs.views.Exprs.{actuals_view}
use Rattle.pfc_phrases.specs.Views.{env_view}
use Rattle.pfc_code_size.specs.Calls.{reads_size}
use Rattle.pfc_code_size.proofs.output.reads.Given as goal

abbrev pub invariant-loop-a : goal.invariant-loop-a
invariant-loop-a l =
    l.n + reads_size l.env.scopes.now (env_view l.env) (actuals_view (drop l.a-index l.args)) l.skip
    ≡ l.fn.count + reads_size l.env.scopes.now (env_view l.env) (actuals_view l.args) l.skip
