use Rattle.std.proofs.Common.{◌∙◌}
use Rattle.pfc_tree.specs.views.Exprs.{exprs_view, selectors_view}
use Rattle.pfc_semantics.specs.Alternatives.{context}
use Rattle.pfc_semantics.specs.Remainders.{index_into, read_for}
use Rattle.pfc_phrases.specs.Views.{env_view}
use Rattle.pfc_store.specs.Views.{typed_spot_view}
use Rattle.pfc_pending.specs.Waiting.{awaits_of, waiting}
use Rattle.pfc_frequent_parts.proofs.Entered.{value_same}
use Rattle.pfc_frequent_parts.proofs.elements.enter_to_read.Goals as goal

pub returns-then-step-clause-next : goal.returns-then-step-clause-next
returns-then-step-clause-next c = λ t line.
    let to = read_for (awaits_of (waiting t c.args.pending.now.items)) in
    c.step.ensures.stepped c.if-step.true line to
    ∙ value_same (context (env_view c.args.site.env) line)
    (index_into (typed_spot_view c.args.array) (exprs_view c.args.es.now) (selectors_view c.args.ss.now) to) c.args.i c.ranges.i
