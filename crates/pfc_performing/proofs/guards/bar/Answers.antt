use Rattle.std.proofs.Common.{ap}
use Rattle.pfc_pending.specs.declared.actions.Deed.TheVariants as deed
use Rattle.pfc_performing.proofs.Performed.{done_so, given_so}
use Rattle.pfc_performing.proofs.guards.bar.Goals as goal

pub returns-in-Ok : goal.returns-in-Ok
returns-in-Ok c = λ source. done_so source c.args.state.now c.bars.new.state c.args.p (deed.Bars c.args.bar) c.in-Ok.done (c.in-Ok.ensures.ok source)

pub returns-in-Err : goal.returns-in-Err
returns-in-Err c = λ source. given_so source c.args.state.now c.bars.new.state c.args.p (deed.Bars c.args.bar) _ c.in-Err.ensures.err
    (ap deed.Bars c.in-Err.ensures.given)
