use Rattle.std.proofs.Common.{◌∙◌}
use Rattle.pfc_tree.specs.views.Exprs.{desig_view}
use Rattle.pfc_semantics.specs.Alternatives.{context}
use Rattle.pfc_phrases.specs.Views.{env_view}
use Rattle.pfc_pending.specs.Selects.{alternative_view, rest_view, select_view}
use Rattle.pfc_pending.specs.Waiting.{remainder_of}
use Rattle.pfc_select_steps.proofs.Rules.{receive_step}
use Rattle.pfc_select_steps.proofs.through.offer_receive.Goals as goal

pub returns : goal.returns
returns c = λ t line w.
    let here = context (env_view c.args.site.env) line in
    let x = c.args.choosing.value in
    c.part.ensures t line w
    ∙ receive_step here (desig_view c.args.d.now) (desig_view c.args.v.now) _ (alternative_view x.current) (rest_view x) (select_view x.select) (remainder_of w)
    (c.receiver_of.ensures line)
