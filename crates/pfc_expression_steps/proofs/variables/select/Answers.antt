use Rattle.std.proofs.Common.{◌≡◌, subst}
use Rattle.pfc_tree.specs.trees.Exprs.{SelectorTrees}
use Rattle.pfc_semantics.specs.Expressions.{from_selectors}
use Rattle.pfc_semantics.specs.Rewriting.{from_location}
use Rattle.pfc_store.specs.Views.{typed_spot_view}
use Rattle.pfc_semantics.specs.Alternatives.{context}
use Rattle.pfc_phrases.specs.Views.{env_view}
use Rattle.pfc_pending.specs.Waiting.{goal_over}
use Rattle.pfc_expression_steps.specs.Ahead.{reached_ahead}
use Rattle.pfc_expression_steps.proofs.Firsts.{selectors_first}
use Rattle.pfc_expression_steps.proofs.variables.select.Goals as goal

pub returns-in-len1-up-clause-next : goal.returns-in-len1-up-clause-next
returns-in-len1-up-clause-next c = λ t line w.
    let here = context (env_view c.args.site.env) line in
    let over = goal_over w c.args.goal in
    subst (λ (ss : SelectorTrees). reached_ahead t here w ss c.enter.result ≡ from_selectors here
    (typed_spot_view c.args.spot) ss over (from_location here over))
    (selectors_first c.args.ss.now c.first-item.result c.in-len1-up.len_at_least c.first-item.is) (c.enter.ensures.next t line w)
