use Rattle.std.proofs.Common.{ap}
use Rattle.pfc_pending.specs.declared.actions.Deed.TheVariants as deed
use Rattle.pfc_pending.specs.declared.pending.Callee.TheVariants as callee
use Rattle.pfc_performing.proofs.Performed.{done_so, given_so}
use Rattle.pfc_performing.proofs.calls.call_function.Goals as goal

pub returns-in-Ok : goal.returns-in-Ok
returns-in-Ok c = done_so c.args.source.now c.args.state.now c.calls_function.new.state c.args.p
    (deed.Calls (callee.Function c.args.scope) c.args.args) c.in-Ok.done c.in-Ok.ensures.ok

pub returns-in-Err : goal.returns-in-Err
returns-in-Err c =
    given_so c.args.source.now c.args.state.now c.calls_function.new.state c.args.p
    (deed.Calls (callee.Function c.args.scope) c.args.args) _ c.in-Err.ensures.err
    (ap (deed.Calls (callee.Function c.args.scope)) c.in-Err.ensures.given)
