use Rattle.std.proofs.Common.{sym, ◌∙◌, ap}
use Rattle.pfc_tree.specs.views.Exprs.{exprs_view, selectors_view}
use Rattle.pfc_semantics.specs.Alternatives.{context}
use Rattle.pfc_semantics.specs.Remainders.{index_into}
use Rattle.pfc_semantics.specs.Rewriting.{from_value}
use Rattle.pfc_semantics.specs.Values.{ordinal}
use Rattle.pfc_phrases.specs.Views.{env_view}
use Rattle.pfc_store.specs.Views.{typed_spot_view}
use Rattle.pfc_pending.specs.Waiting.{awaits_of, goal_over, over, waiting}
use Rattle.pfc_pending.specs.declared.pending.Pending.{Pending}
use Rattle.pfc_frequent_parts.proofs.Entered.{reached_same}
use Rattle.pfc_frequent_parts.proofs.elements.enter.Goals as goal

pub returns-in-IndexInto-clause-next : goal.returns-in-IndexInto-clause-next
returns-in-IndexInto-clause-next c = λ t line.
    let here = context (env_view c.args.site.env) line in
    let w = waiting t c.args.pending.now.items in
    reached_same t here (waiting t c.enter_array.new.pending.items) c.args.i c.enter_array.result
    (index_into (typed_spot_view c.in-IndexInto.array) (exprs_view c.in-IndexInto.es.now) (selectors_view c.in-IndexInto.ss.now)
    (goal_over w c.in-IndexInto.goal))
    c.ranges.i (c.enter_array.ensures.next t line)
    ∙ ap (λ (x : Pending). from_value here (awaits_of (over t w x)) (ordinal c.args.i)) (sym c.in-IndexInto.is)
