use Rattle.std.proofs.Common.{◌∙◌}
use Rattle.pfc_tree.specs.views.Exprs.{expr_view, desig_view}
use Rattle.pfc_semantics.specs.Alternatives.{context}
use Rattle.pfc_phrases.specs.Views.{env_view}
use Rattle.pfc_pending.specs.Waiting.{remainder_of, expr_given}
use Rattle.pfc_statement_steps.proofs.Rules.{send_step}
use Rattle.pfc_statement_steps.proofs.communication.send.Goals as goal

pub returns : goal.returns
returns c = λ t line w.
    c.part.ensures t line w
    ∙ send_step (context (env_view c.args.site.env) line) (desig_view c.args.d.now) (expr_view c.args.e.now) (expr_given c.message_of.result)
    (remainder_of w) (c.message_of.ensures line)
