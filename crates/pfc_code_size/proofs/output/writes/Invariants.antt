use Rattle.std.proofs.Common.{◌≡◌, ◌+◌, drop}
use Rattle.pfc_tree.specs.views.Exprs.{actuals_view}
use Rattle.pfc_phrases.specs.Views.{env_view}
use Rattle.pfc_code_size.specs.Calls.{writes_size}
use Rattle.pfc_code_size.proofs.output.writes.Given as goal

abbrev pub invariant-loop-a : goal.invariant-loop-a
invariant-loop-a l =
    l.n + writes_size l.env.scopes.now (env_view l.env) (actuals_view (drop l.a-index l.items)) l.newline
    ≡ l.fn.count + writes_size l.env.scopes.now (env_view l.env) (actuals_view l.items) l.newline
