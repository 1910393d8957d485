use Rattle.std.proofs.Common.{ap₂}
use Rattle.pfc_pending.specs.declared.actions.Deed.TheVariants as deed
use Rattle.pfc_performing.proofs.Performed.{done_so, given_so}
use Rattle.pfc_performing.proofs.guards.pass.Goals as goal

pub returns-in-Ok : goal.returns-in-Ok
returns-in-Ok c = λ source. done_so source c.args.state.now c.passes.new.state c.args.p
    (deed.Passes c.args.tried c.args.scan) c.in-Ok.done (c.in-Ok.ensures.ok source)

pub returns-in-Err : goal.returns-in-Err
returns-in-Err c = λ source. given_so source c.args.state.now c.passes.new.state c.args.p (deed.Passes c.args.tried c.args.scan) _ c.in-Err.ensures.err
    (let (tried, scan) = c.in-Err.ensures.given in ap₂ deed.Passes tried scan)
