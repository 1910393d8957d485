use Rattle.std.proofs.Common.{sym, ◌∙◌, ap}
use Rattle.pfc_tree.specs.views.Exprs.{expr_view, exprs_view, selectors_view}
use Rattle.pfc_semantics.specs.Alternatives.{context}
use Rattle.pfc_semantics.specs.Remainders.{assign_to, index_into, read_for}
use Rattle.pfc_semantics.specs.Rewriting.{from_value}
use Rattle.pfc_semantics.specs.Values.{ordinal}
use Rattle.pfc_phrases.specs.Views.{env_view}
use Rattle.pfc_store.specs.Views.{typed_spot_view}
use Rattle.pfc_pending.specs.Waiting.{awaits_of, goal_over, remainder_of, waiting}
use Rattle.pfc_pending.specs.declared.pending.Goal.{Goal}
use Rattle.pfc_frequent_parts.proofs.Entered.{reached_same}
use Rattle.pfc_frequent_parts.proofs.elements.enter_array.Goals as goal

pub returns-in-Read-clause-next : goal.returns-in-Read-clause-next
returns-in-Read-clause-next c = λ t line.
    let here = context (env_view c.args.site.env) line in
    let w = waiting t c.args.pending.now.items in
    let s = typed_spot_view c.args.array in
    let es = exprs_view c.args.es.now in
    let ss = selectors_view c.args.ss.now in
    reached_same t here (waiting t c.enter_to_read.new.pending.items) c.args.i c.enter_to_read.result (index_into s es ss (read_for (awaits_of w)))
    c.ranges.i (c.enter_to_read.ensures.next t line)
    ∙ ap (λ (g : Goal). from_value here (index_into s es ss (goal_over w g)) (ordinal c.args.i)) (sym c.in-Read.is)

pub returns-in-AssignTo-clause-next : goal.returns-in-AssignTo-clause-next
returns-in-AssignTo-clause-next c = λ t line.
    let here = context (env_view c.args.site.env) line in
    let w = waiting t c.args.pending.now.items in
    let s = typed_spot_view c.args.array in
    let es = exprs_view c.args.es.now in
    let ss = selectors_view c.args.ss.now in
    reached_same t here (waiting t c.enter_to_assign.new.pending.items) c.args.i c.enter_to_assign.result
    (index_into s es ss (assign_to (expr_view c.in-AssignTo.value.now) (remainder_of w)))
    c.ranges.i (c.enter_to_assign.ensures.next t line)
    ∙ ap (λ (g : Goal). from_value here (index_into s es ss (goal_over w g)) (ordinal c.args.i)) (sym c.in-AssignTo.is)
