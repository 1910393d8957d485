use Rattle.std.proofs.Common.{◌∙◌}
use Rattle.pfc_tree.specs.views.Exprs.{expr_view, desig_view}
use Rattle.pfc_semantics.specs.Alternatives.{context}
use Rattle.pfc_phrases.specs.Views.{env_view}
use Rattle.pfc_pending.specs.Selects.{alternative_view, rest_view, select_view}
use Rattle.pfc_pending.specs.Waiting.{remainder_of}
use Rattle.pfc_select_steps.proofs.Rules.{send_step}
use Rattle.pfc_select_steps.proofs.through.offer_send.Goals as goal

pub returns : goal.returns
returns c = λ t line w.
    let here = context (env_view c.args.site.env) line in
    let x = c.args.choosing.value in
    c.part.ensures t line w
    ∙ send_step here (desig_view c.args.d.now) (expr_view c.args.e.now) _ (alternative_view x.current) (rest_view x) (select_view x.select) (remainder_of w)
    (c.message_of.ensures line)
