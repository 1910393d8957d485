use Rattle.std.proofs.Common.{◌≡◌, ◌+◌, drop}
use Rattle.pfc_tree.specs.views.Stmts.{alts_view}
use Rattle.pfc_phrases.specs.Views.{env_view}
use Rattle.pfc_unseen_code.specs.Counts.{alternative_count}
use Rattle.pfc_unseen_code.proofs.counts.count.Given as goal

abbrev pub invariant-loop-a : goal.invariant-loop-a
invariant-loop-a l =
    l.sum + alternative_count (env_view l.env) (alts_view (drop l.a-index l.alts)) ≡ alternative_count (env_view l.env) (alts_view l.alts)
