use Rattle.std.proofs.Common.{◌∙◌}
use Rattle.pfc_tree.specs.views.Exprs.{desig_view}
use Rattle.pfc_semantics.specs.Alternatives.{context}
use Rattle.pfc_phrases.specs.Views.{env_view}
use Rattle.pfc_pending.specs.Waiting.{remainder_of, desig_given}
use Rattle.pfc_statement_steps.proofs.Rules.{receive_step}
use Rattle.pfc_statement_steps.proofs.communication.receive.Goals as goal

pub returns : goal.returns
returns c = λ t line w.
    c.part.ensures t line w
    ∙ receive_step (context (env_view c.args.site.env) line) (desig_view c.args.d.now) (desig_view c.args.v.now) (desig_given c.receiver_of.result)
    (remainder_of w) (c.receiver_of.ensures line)
