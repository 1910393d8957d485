use Rattle.std.proofs.Common.{◌∙◌, ap}
use Rattle.pfc_tree.specs.views.Exprs.{expr_view, exprs_view, selectors_view}
use Rattle.pfc_semantics.specs.Alternatives.{context}
use Rattle.pfc_semantics.specs.Expressions.{from_expr}
use Rattle.pfc_semantics.specs.Remainders.{assign_to, index_into}
use Rattle.pfc_semantics.specs.Rewriting.{from_value}
use Rattle.pfc_phrases.specs.Views.{env_view}
use Rattle.pfc_store.specs.Views.{typed_spot_view}
use Rattle.pfc_pending.specs.Waiting.{Waiting, awaits_of, remainder_of, waiting}
use Rattle.pfc_frequent_parts.proofs.Entered.{value_same}
use Rattle.pfc_frequent_parts.proofs.elements.enter_to_assign.Goals as goal

pub returns-then-step-clause-next : goal.returns-then-step-clause-next
returns-then-step-clause-next c = λ t line.
    let here = context (env_view c.args.site.env) line in
    let e = expr_view c.args.value.now in
    let to = assign_to e (remainder_of (waiting t c.args.pending.now.items)) in
    ap (λ (w : Waiting). from_expr here e (awaits_of w) (from_value here (awaits_of w))) (c.put_target.ensures.put t)
    ∙ c.step.ensures.stepped c.if-step.true line to
    ∙ value_same here (index_into (typed_spot_view c.args.array) (exprs_view c.args.es.now) (selectors_view c.args.ss.now) to) c.args.i c.ranges.i
