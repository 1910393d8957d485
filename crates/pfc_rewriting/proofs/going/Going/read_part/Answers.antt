use Rattle.std.proofs.Common.{◌≡◌, ◌∙◌, subst}
use Rattle.pfc_tree.specs.views.Exprs.{selectors_view}
use Rattle.pfc_phrases.specs.Views.{env_view}
use Rattle.pfc_semantics.specs.Alternatives.{context}
use Rattle.pfc_pending.specs.Ahead.{ahead}
use Rattle.pfc_pending.specs.Waiting.{waiting}
use Rattle.pfc_pending.specs.declared.at_hand.At.TheVariants as at
use Rattle.pfc_expression_steps.specs.Ahead.{reached_ahead}
use Rattle.pfc_expression_steps.specs.declared.variables.Reason.{Reason}
use Rattle.pfc_expression_steps.specs.declared.variables.Reached.TheVariants as reached
use Rattle.pfc_rewriting.proofs.going.Going.read_part.Goals as goal

pub returns-in-Back-Select-default-default : goal.returns-in-Back-Select-default-default
returns-in-Back-Select-default-default c = λ t.
    let here = context (env_view c.args.site.env) c.args.self.now.line in
    let w = waiting t c.args.self.now.pending.items in
    let arm = c.in-Back-Select-default-default in
    c.offer.ensures t
    ∙ subst (λ (r : Reason). reached_ahead t here w (selectors_view c.args.ss.now) (reached.Back r arm.spot arm.goal) ≡ ahead t here w
    (at.Part c.args.spot c.args.es c.args.ss c.args.goal))
    arm.field-0-is (arm.ensures.next t c.args.self.now.line w)

pub returns-in-Back-Memory-default-default : goal.returns-in-Back-Memory-default-default
returns-in-Back-Memory-default-default c = λ t.
    let here = context (env_view c.args.site.env) c.args.self.now.line in
    let w = waiting t c.args.self.now.pending.items in
    let arm = c.in-Back-Memory-default-default in
    c.put.ensures t (env_view c.args.site.env)
    ∙ subst (λ (r : Reason). reached_ahead t here w (selectors_view c.args.ss.now) (reached.Back r arm.spot arm.goal) ≡ ahead t here w
    (at.Part c.args.spot c.args.es c.args.ss c.args.goal))
    arm.field-0-is (arm.ensures.next t c.args.self.now.line w)
