use Rattle.std.proofs.Common.{◌∙◌}
use Rattle.pfc_phrases.specs.Views.{env_view}
use Rattle.pfc_semantics.specs.Alternatives.{context}
use Rattle.pfc_pending.specs.Waiting.{awaits_of}
use Rattle.pfc_expression_steps.proofs.Firsts.{term_alone, term_begun}
use Rattle.pfc_expression_steps.proofs.expressions.term.Goals as goal

pub returns-in-empty : goal.returns-in-empty
returns-in-empty c = λ tables line w.
    c.factor.ensures tables line w
    ∙ term_alone (context (env_view c.args.site.env) line) c.args.t.now c.as_slice.result.now (awaits_of w) c.as_slice.ensures.value c.in-empty.len_below

pub returns-in_default : goal.returns-in_default
returns-in_default c = λ tables line w.
    term_begun (context (env_view c.args.site.env) line) c.args.t.now c.as_slice.result.now (awaits_of w) c.as_slice.ensures.value c.in_default.len_at_least
