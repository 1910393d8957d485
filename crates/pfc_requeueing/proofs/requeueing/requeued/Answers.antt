use Rattle.std.proofs.Common.{ap, ◌∙◌}
use Rattle.pfc_program.specs.Views.{block_view}
use Rattle.pfc_semantics.specs.Configurations.{body_of}
use Rattle.pfc_semantics.specs.Remainders.{Scan, in_names, scan_on}
use Rattle.pfc_semantics.specs.Rewriting.{from_remainder}
use Rattle.pfc_activities.specs.Views.{mark_view}
use Rattle.pfc_activating.proofs.Activated.{on_err, stays}
use Rattle.pfc_requeueing.proofs.Requeued.{requeued_so, requeued_too_many}
use Rattle.pfc_requeueing.proofs.requeueing.requeued.Goals as goal

pub returns-in_default-cells_instead-clause-ok : goal.returns-in_default-cells_instead-clause-ok
returns-in_default-cells_instead-clause-ok c =
    requeued_too_many c.args.source.now c.args.state.now c.end_in_fault.new.self c.args.p c.args.scope c.in-Some.innermost.number
    (mark_view c.in-Some.innermost.mark) c.args.args.now c.block_at-block.result.now c.end_in_fault.result c.block_at-block.ensures c.in-Some.ensures
    (c.cells_instead.ensures.many c.in_default-cells_instead.is) c.end_in_fault.ensures

pub returns-in_err-procedure-clause-err : goal.returns-in_err-procedure-clause-err
returns-in_err-procedure-clause-err c = on_err c.from_residual.result (stays c.args.state.now c.args.p)

pub returns-in_err-doing-clause-err : goal.returns-in_err-doing-clause-err
returns-in_err-doing-clause-err c = on_err c.from_residual-in_err-doing.result (stays c.args.state.now c.args.p)

pub returns-clause-ok : goal.returns-clause-ok
returns-clause-ok c =
    let held = c.block_at-block.result.now in
    requeued_so c.args.source.now c.args.state.now c.give_way.new.state c.end_at.new.state c.args.p c.args.scope c.line_of-line.result
    c.in-Some-cells_instead.cells c.in_ok-procedure.procedure c.resource_of.result c.in-Some.innermost.number (mark_view c.in-Some.innermost.mark)
    c.args.args.now held c.in_ok-doing.doing c.end_at.result c.block_at-block.ensures c.in-Some.ensures c.in-Some-cells_instead.ensures.some
    c.in-Some-cells_instead.ensures.few c.line_of-line.ensures c.resource_of.ensures c.in_ok-procedure.ensures
    (λ t. c.in_ok-doing.ensures t
    ∙ ap (λ (x : Scan). from_remainder (block_view t held).env (scan_on x (in_names (block_view t held).env (body_of (block_view t held)))))
    (c.scan_ahead-scan.ensures t))
    c.in_ok-give_way.ensures.ok c.end_at.ensures
