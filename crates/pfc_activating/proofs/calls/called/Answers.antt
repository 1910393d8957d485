use Rattle.pfc_activating.proofs.Activated.{on_err, stays}
use Rattle.pfc_activating.proofs.Calling.{called_so, too_many}
use Rattle.pfc_activating.proofs.calls.called.Goals as goal

pub returns-in_default-clause-ok : goal.returns-in_default-clause-ok
returns-in_default-clause-ok c =
    too_many c.args.source.now c.args.state.now c.end_in_fault.new.self c.args.p c.args.scope c.args.waits c.args.args.now c.block_at-block.result.now
    c.end_in_fault.result c.block_at-block.ensures (c.cells_for.ensures.many c.in_default.is) c.end_in_fault.ensures

pub returns-in_err-doing-clause-err : goal.returns-in_err-doing-clause-err
returns-in_err-doing-clause-err c = on_err c.from_residual.result (stays c.args.state.now c.args.p)

pub returns-clause-ok : goal.returns-clause-ok
returns-clause-ok c =
    called_so c.args.source.now c.args.state.now c.activate.new.state c.end_at.new.state c.args.p c.args.scope c.line_of-line.result c.in-Some.cells
    c.args.waits c.args.args.now c.block_at-block.result.now c.in_ok-doing.doing c.end_at.result c.block_at-block.ensures
    c.in-Some.ensures.some c.in-Some.ensures.few c.line_of-line.ensures c.in_ok-doing.ensures c.in_ok-activate.ensures.ok c.end_at.ensures
