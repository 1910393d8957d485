use Rattle.std.proofs.Common.{ap}
use Rattle.pfc_pending.specs.declared.actions.Deed.TheVariants as deed
use Rattle.pfc_pending.specs.declared.select.Offer.TheVariants as offer
use Rattle.pfc_performing.proofs.Performed.{done_so, given_so}
use Rattle.pfc_performing.proofs.meetings.receive.Goals as goal

pub returns-in-Ok : goal.returns-in-Ok
returns-in-Ok c = done_so c.args.source.now c.args.state.now c.receives.new.state c.args.p
    (deed.Meets (offer.Receive c.args.channel c.args.target)) c.in-Ok.done (c.in-Ok.ensures.ok c.args.source.now)

pub returns-in-Err : goal.returns-in-Err
returns-in-Err c = given_so c.args.source.now c.args.state.now c.receives.new.state c.args.p
    (deed.Meets (offer.Receive c.args.channel c.args.target)) _ c.in-Err.ensures.err
    (ap deed.Meets c.in-Err.ensures.given)
