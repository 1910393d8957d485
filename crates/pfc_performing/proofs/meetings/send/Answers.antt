use Rattle.std.proofs.Common.{ap}
use Rattle.pfc_pending.specs.declared.actions.Deed.TheVariants as deed
use Rattle.pfc_pending.specs.declared.select.Offer.TheVariants as offer
use Rattle.pfc_performing.proofs.Performed.{done_so, given_so}
use Rattle.pfc_performing.proofs.meetings.send.Goals as goal

pub returns-in-Ok : goal.returns-in-Ok
returns-in-Ok c = done_so c.args.source.now c.args.state.now c.sends.new.state c.args.p
    (deed.Meets (offer.Send c.args.channel c.args.value)) c.in-Ok.done (c.in-Ok.ensures.ok c.args.source.now)

pub returns-in-Err : goal.returns-in-Err
returns-in-Err c = given_so c.args.source.now c.args.state.now c.sends.new.state c.args.p
    (deed.Meets (offer.Send c.args.channel c.args.value)) _ c.in-Err.ensures.err
    (ap deed.Meets c.in-Err.ensures.given)
