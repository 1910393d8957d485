use Rattle.std.proofs.Common.{refl, ap}
use Rattle.pfc_pending.specs.declared.actions.Deed.TheVariants as deed
use Rattle.pfc_performing.proofs.Performed.{given_so, stays_same, tried_at}
use Rattle.pfc_performing.proofs.meetings.meet.Goals as goal

pub returns-in-Send : goal.returns-in-Send
returns-in-Send c =
    tried_at c.args.source.now c.args.state.now c.send.new.state c.args.p (deed.Meets c.args.offer) _ c.send.result
    (ap deed.Meets c.in-Send.is) c.send.ensures

pub returns-in-Receive : goal.returns-in-Receive
returns-in-Receive c =
    tried_at c.args.source.now c.args.state.now c.receive.new.state c.args.p (deed.Meets c.args.offer) _ c.receive.result
    (ap deed.Meets c.in-Receive.is) c.receive.ensures

pub returns-in-Accept : goal.returns-in-Accept
returns-in-Accept c =
    tried_at c.args.source.now c.args.state.now c.accept.new.state c.args.p (deed.Meets c.args.offer) _ c.accept.result
    (ap deed.Meets c.in-Accept.is) c.accept.ensures

pub returns-in_default : goal.returns-in_default
returns-in_default c = given_so c.args.source.now c.args.state.now c.args.state.now c.args.p _ _
    (stays_same c.args.state.now c.args.state.now c.args.p refl) refl
