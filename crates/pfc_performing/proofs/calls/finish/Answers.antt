use Rattle.std.proofs.Common.{ap}
use Rattle.pfc_pending.specs.declared.actions.Deed.TheVariants as deed
use Rattle.pfc_performing.proofs.Performed.{done_so, given_so}
use Rattle.pfc_performing.proofs.calls.finish.Goals as goal

pub returns-in-Ok : goal.returns-in-Ok
returns-in-Ok c = done_so c.args.source.now c.args.state.now c.finishes.new.state c.args.p (deed.Finishes c.args.line) c.in-Ok.done c.in-Ok.ensures.ok

pub returns-in-Err : goal.returns-in-Err
returns-in-Err c = given_so c.args.source.now c.args.state.now c.finishes.new.state c.args.p (deed.Finishes c.args.line) _ c.in-Err.ensures.err
    (ap deed.Finishes c.in-Err.ensures.given)
