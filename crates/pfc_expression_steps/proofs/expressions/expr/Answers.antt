use Rattle.std.proofs.Common.{◌≡◌, ◌∙◌, subst}
use Rattle.pfc_semantics.specs.Alternatives.{context}
use Rattle.pfc_phrases.specs.Views.{env_view}
use Rattle.pfc_pending.specs.Ahead.{ahead, step_ahead}
use Rattle.pfc_pending.specs.declared.at_hand.At.TheVariants as at
use Rattle.pfc_pending.specs.declared.at_hand.At.{At}
use Rattle.pfc_pending.specs.declared.at_hand.Step.TheVariants as to
use Rattle.pfc_expression_steps.proofs.expressions.expr.Goals as goal

pub returns-in-On-Simple : goal.returns-in-On-Simple
returns-in-On-Simple c = λ t line w.
    let here = context (env_view c.args.site.env) line in
    c.simple.ensures t line w
    ∙ subst (λ (a : At). step_ahead t here w (to.On a) ≡ ahead t here w (at.Expr c.args.e)) c.in-On-Simple.field-0-is
    (subst (λ r. step_ahead t here w r ≡ ahead t here w (at.Expr c.args.e)) c.in-On-Simple.is (c.sides.ensures t here w))
