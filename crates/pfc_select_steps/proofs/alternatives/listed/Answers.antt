use Rattle.std.proofs.Common.{arith}
use Rattle.pfc_tree.specs.views.Stmts.{alts_view}
use Rattle.pfc_semantics.specs.Alternatives.{alternatives, context}
use Rattle.pfc_phrases.specs.Views.{env_view}
use Rattle.pfc_select_steps.specs.Gone.{alternatives_view}
use Rattle.pfc_select_steps.proofs.Lists.{listed_more}
use Rattle.pfc_select_steps.proofs.alternatives.listed.Goals as goal

pub loop-alt-preserved : goal.loop-alt-preserved
loop-alt-preserved c =
    let here = context (env_view c.args.site.env) c.args.line in
    listed_more here c.loop-alt.next c.in_ok-next.next c.args.alts.now c.loop-alt.alt-index c.alt-item.result
    (alternatives_view c.loop-alt.all.items) (alternatives_view c.spread.new.all.items) (alternatives here c.args.n (alts_view c.args.alts.now))
    c.loop-alt.invariant (omega arith) c.alt-item.is c.in_ok-spread.ensures c.in_ok-next.ensures.value
