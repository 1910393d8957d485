use Rattle.std.proofs.Common.{ap}
use Rattle.pfc_pending.specs.declared.actions.Deed.TheVariants as deed
use Rattle.pfc_performing.proofs.Performed.{done_so, given_so, stays_same}
use Rattle.pfc_performing.proofs.variables.write.Goals as goal

pub returns-in-Ok : goal.returns-in-Ok
returns-in-Ok c = λ source.
    done_so source c.args.state.now c.writes.new.state c.args.p (deed.Writes c.args.spot c.args.value) c.in-Ok.done (c.in-Ok.ensures.ok source)

pub returns-in-Err : goal.returns-in-Err
returns-in-Err c = λ source.
    given_so source c.args.state.now c.writes.new.state c.args.p (deed.Writes c.args.spot c.args.value) _
    (stays_same c.args.state.now c.writes.new.state c.args.p c.in-Err.ensures.err)
    (ap (λ v. deed.Writes v.0 v.1) c.in-Err.ensures.given)
