use Rattle.std.proofs.Common.{refl}
use Rattle.pfc_activities.specs.declared.state.State.{State}
use Rattle.pfc_activating.proofs.Activated.{on_err, stays}
use Rattle.pfc_entering.proofs.Entering.{enters_monitor_so, monitor_too_many}
use Rattle.pfc_entering.proofs.modules.enters_monitor.Goals as goal

pub returns-in_default-clause-ok : goal.returns-in_default-clause-ok
returns-in_default-clause-ok c =
    monitor_too_many c.args.source.now c.args.state.now c.end_in_fault.new.self c.args.p c.args.scope c.args.m c.args.args.now
    c.block_at-block.result.now c.end_in_fault.result c.block_at-block.ensures (c.cells_for.ensures.many c.in_default.is) c.end_in_fault.ensures

pub returns-in_err-doing-clause-err : goal.returns-in_err-doing-clause-err
returns-in_err-doing-clause-err c = on_err c.from_residual.result (stays c.args.state.now c.args.p)

pub returns-clause-ok : goal.returns-clause-ok
returns-clause-ok c =
    let mid : State = c.activate.new.state in
    let after : State = record mid { world = c.enter_by.new.world; monitors = c.enter_by.new.mons } in
    enters_monitor_so c.args.source.now c.args.state.now mid after c.end_at.new.state c.args.p c.args.scope c.args.m c.line_of-line.result
    c.in-Some.cells c.args.args.now c.block_at-block.result.now c.in_ok-doing.doing c.end_at.result c.block_at-block.ensures
    c.in-Some.ensures.some c.in-Some.ensures.few c.line_of-line.ensures c.in_ok-doing.ensures c.in_ok-activate.ensures.ok refl
    c.enter_by.ensures.acted c.enter_by.ensures.rule c.enter_by.ensures.conditions refl c.end_at.ensures
