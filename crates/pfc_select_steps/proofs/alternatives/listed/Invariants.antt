-- Those so far, and behind them those of the alternatives still to come.
use Rattle.std.proofs.Common.{◌≡◌, ◌++◌, drop}
use Rattle.pfc_tree.specs.views.Stmts.{alts_view}
use Rattle.pfc_semantics.specs.Alternatives.{alternatives, context}
use Rattle.pfc_phrases.specs.Views.{env_view}
use Rattle.pfc_select_steps.specs.Gone.{alternatives_view}
use Rattle.pfc_select_steps.proofs.alternatives.listed.Given as goal

abbrev pub invariant-loop-alt : goal.invariant-loop-alt
invariant-loop-alt l =
    let c = context (env_view l.site.env) l.line in
    alternatives_view l.all.items ++ alternatives c l.next (alts_view (drop l.alt-index l.alts)) ≡ alternatives c l.fn.n (alts_view l.alts)
