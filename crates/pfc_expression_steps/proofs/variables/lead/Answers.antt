use Rattle.std.proofs.Common.{ap, ◌∙◌}
use Rattle.pfc_tree.specs.views.Exprs.{selectors_view}
use Rattle.pfc_semantics.specs.Expressions.{from_indices, from_selectors}
use Rattle.pfc_semantics.specs.Rewriting.{from_location}
use Rattle.pfc_store.specs.Views.{typed_spot_view}
use Rattle.pfc_semantics.specs.Alternatives.{context}
use Rattle.pfc_phrases.specs.Views.{env_view}
use Rattle.pfc_pending.specs.Waiting.{goal_over}
use Rattle.pfc_expression_steps.proofs.Firsts.{exprs_first}
use Rattle.pfc_expression_steps.proofs.variables.lead.Goals as goal

pub returns-in-len1-up-clause-next : goal.returns-in-len1-up-clause-next
returns-in-len1-up-clause-next c = λ t line w.
    let here = context (env_view c.args.site.env) line in
    let ss = selectors_view c.args.ss.now in
    let over = goal_over w c.args.goal in
    c.index.ensures t here w
    ∙ ap (λ es. from_indices here (typed_spot_view c.args.spot) es ss over (λ last. from_selectors here last ss over (from_location here over)))
    (exprs_first c.args.es.now c.e-item.result c.in-len1-up.len_at_least c.e-item.is)
