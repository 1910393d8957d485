use Rattle.std.proofs.Common.{◌∙◌}
use Rattle.pfc_tree.specs.views.Exprs.{actuals_view}
use Rattle.pfc_facts.specs.Views.{function_view}
use Rattle.pfc_semantics.specs.Alternatives.{context}
use Rattle.pfc_phrases.specs.Views.{env_view}
use Rattle.pfc_pending.specs.Waiting.{awaits_of}
use Rattle.pfc_expression_steps.proofs.Rules.{evaluated_step, evaluated_kind}
use Rattle.pfc_expression_steps.proofs.factors.function.Goals as goal

pub returns-in-Abs : goal.returns-in-Abs
returns-in-Abs c = λ t line w.
    let here = context (env_view c.args.site.env) line in
    c.evaluated.ensures t here w
    ∙ evaluated_step here (function_view c.args.f) (actuals_view c.args.args.now)
    (awaits_of w) c.first_type.result c.first_type.ensures (evaluated_kind c.args.f c.in-Abs.is)
