use Rattle.std.proofs.Common.{sym, ◌∙◌, ap, arith}
use Rattle.std.proofs.lemmas.Result.{IfOk-weaker}
use Rattle.pfc_store.specs.Views.{values_view}
use Rattle.pfc_events.proofs.Communicating.{called_apart, called_there}
use Rattle.pfc_events.proofs.sides.call_writes.Goals as goal

pub returns-then-not-is_accepting : goal.returns-then-not-is_accepting
returns-then-not-is_accepting c =
    called_apart c.args.state.now c.args.p c.in_ok-q.q c.args.entry c.index-own.result.now c.args.spot.now
    c.args.args.now c.new.result.items c.index-own.ensures
    c.in_ok-q.ensures (sym c.if-not-is_accepting.true ∙ c.is_accepting.ensures.answer) c.new.ensures.items

pub returns : goal.returns
returns c =
    IfOk-weaker c.side_writes.result _ _
    (λ accesses written.
    called_there c.args.state.now c.args.p c.in_ok-q.q c.args.entry c.index-own.result.now c.index-owner.result.now c.args.spot.now c.args.args.now
    c.deref.result.now accesses.items c.index-own.ensures (omega arith) c.index-owner.ensures c.requires.ready
    (c.is_accepting.ensures.waits c.if-not-is_accepting.false) c.in_ok-q.ensures (sym c.if-not-is_accepting.false ∙ c.is_accepting.ensures.answer)
    (ap values_view c.deref.ensures.value ∙ c.in_ok-values.ensures) written)
    c.side_writes.ensures
