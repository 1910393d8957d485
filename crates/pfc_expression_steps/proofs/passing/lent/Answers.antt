use Rattle.std.proofs.Common.{◌∙◌}
use Rattle.pfc_tree.specs.views.Exprs.{expr_view, desig_view, actual_view}
use Rattle.pfc_semantics.specs.Alternatives.{context}
use Rattle.pfc_semantics.specs.Rewriting.{from_location}
use Rattle.pfc_phrases.specs.Views.{env_view}
use Rattle.pfc_pending.specs.Waiting.{goal_over}
use Rattle.pfc_sites.proofs.References.{lent_found}
use Rattle.pfc_expression_steps.proofs.passing.lent.Goals as goal

pub returns-in-Some : goal.returns-in-Some
returns-in-Some c = λ t line w.
    let here = context (env_view c.args.site.env) line in
    let over = goal_over w c.args.goal in
    c.part.ensures t line w
    ∙ lent_found here (actual_view c.args.actual.now) over (from_location here over) (expr_view c.expression.result.now)
    (desig_view c.in-Some.d.now) c.expression.ensures c.in-Some.ensures
