use Rattle.std.proofs.Common.{◌≡◌, ◌+◌, drop}
use Rattle.pfc_tree.specs.views.Stmts.{alts_view}
use Rattle.pfc_phrases.specs.Views.{env_view}
use Rattle.pfc_code_size.specs.Statements.{alternatives_size}
use Rattle.pfc_code_size.proofs.selects.alternatives.Given as goal

abbrev pub invariant-loop-a : goal.invariant-loop-a
invariant-loop-a l =
    l.n + alternatives_size l.env.scopes.now (env_view l.env) (alts_view (drop l.a-index l.alts)) ≡ l.fn.count +
    alternatives_size l.env.scopes.now (env_view l.env) (alts_view l.alts)
