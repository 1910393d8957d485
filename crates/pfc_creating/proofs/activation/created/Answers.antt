use Rattle.std.proofs.Common.{sym, ◌∙◌}
use Rattle.pfc_activating.proofs.Activated.{on_err, stays}
use Rattle.pfc_creating.proofs.Created.{creates_so, creates_unfinished, creates_too_many}
use Rattle.pfc_creating.proofs.activation.created.Goals as goal

pub returns-in_err-n-clause-err : goal.returns-in_err-n-clause-err
returns-in_err-n-clause-err c = on_err c.from_residual.result (stays c.args.state.now c.args.p)

pub returns-then-is_unfinished-clause-ok : goal.returns-then-is_unfinished-clause-ok
returns-then-is_unfinished-clause-ok c =
    creates_unfinished c.args.source.now c.args.state.now c.end_in_fault.new.self c.args.p c.in_ok-n.n c.args.spot.now c.args.args.now
    c.end_in_fault.result c.in_ok-n.ensures.number (sym c.is_unfinished.ensures ∙ c.if-is_unfinished.true) c.end_in_fault.ensures

pub returns-in_default-clause-ok : goal.returns-in_default-clause-ok
returns-in_default-clause-ok c =
    creates_too_many c.args.source.now c.args.state.now c.end_in_fault-in_default.new.self c.args.p c.in_ok-n.n c.args.spot.now c.args.args.now
    c.block_of-block.result.now c.end_in_fault-in_default.result c.in_ok-n.ensures.number (sym c.is_unfinished.ensures ∙ c.if-is_unfinished.false)
    c.block_of-block.ensures (c.cells_above.ensures.many c.in_default.is) c.end_in_fault-in_default.ensures

pub returns-clause-ok : goal.returns-clause-ok
returns-clause-ok c =
    creates_so c.args.source.now c.args.state.now c.begin.new.state c.go_on_when_ready.new.state c.args.p c.in_ok-n.n c.in-Some.cells c.args.spot.now
    c.args.args.now c.block_of-block.result.now c.go_on_when_ready.result c.in_ok-n.ensures.number
    (sym c.is_unfinished.ensures ∙ c.if-is_unfinished.false) c.block_of-block.ensures c.in-Some.ensures.some c.in-Some.ensures.few
    c.in_ok-begin.ensures.ok c.go_on_when_ready.ensures
