use Rattle.std.proofs.Common.{sym, ap, ◌∙◌}
use Rattle.pfc_phrases.specs.Views.{env_view}
use Rattle.pfc_semantics.specs.Alternatives.{context}
use Rattle.pfc_semantics.specs.Remainders.{AwaitsValue}
use Rattle.pfc_semantics.specs.Rewriting.{from_value}
use Rattle.pfc_store.specs.Views.{value_view}
use Rattle.pfc_pending.specs.Waiting.{waiting}
use Rattle.pfc_rewriting.proofs.Sorts.{unwanted}
use Rattle.pfc_rewriting.proofs.Waiting.{no_value}
use Rattle.pfc_rewriting.proofs.going.Going.meet_choice.Goals as goal

pub returns-in_default : goal.returns-in_default
returns-in_default c = λ t.
    let here = context (env_view c.args.site.env) c.args.self.now.line in
    let arm = c.in_default in
    c.put_end.ensures t (env_view c.args.site.env)
    ∙ sym (ap (λ (u : AwaitsValue). from_value here u (value_view c.args.v))
    (unwanted t (waiting t c.args.self.now.pending.items) c.args.part c.requires.other c.requires.no_guard arm.not-Within
    arm.not-OpenIf arm.not-OfferValue arm.not-OfferWait)
    ∙ no_value here (value_view c.args.v))
