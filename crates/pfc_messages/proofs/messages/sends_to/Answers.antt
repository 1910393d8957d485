use Rattle.pfc_meeting.proofs.BothPass.{another, sent_so, roomier_stays}
use Rattle.pfc_messages.proofs.messages.sends_to.Goals as goal

pub returns-in_default-clause-err : goal.returns-in_default-clause-err
returns-in_default-clause-err c =
    roomier_stays c.args.state.now c.room_at.new.state c.args.p c.args.q
    (another c.args.state.now.world.rows c.args.p c.args.q c.requires.may.ready c.requires.waits) c.room_at.ensures.same

pub returns-in_default-met_receiver-clause-err : goal.returns-in_default-met_receiver-clause-err
returns-in_default-met_receiver-clause-err c =
    roomier_stays c.args.state.now c.room_at.new.state c.args.p c.args.q
    (another c.args.state.now.world.rows c.args.p c.args.q c.requires.may.ready c.requires.waits) c.room_at.ensures.same

pub returns-clause-ok : goal.returns-clause-ok
returns-clause-ok c =
    sent_so c.args.state.now c.room_at.new.state c.pass.new.state c.args.p c.args.q c.args.channel c.args.value c.in-Ok-met_receiver.met.into
    c.in-Ok-met_receiver.met.way c.index-partner.result.now c.pass.result
    (another c.args.state.now.world.rows c.args.p c.args.q c.requires.may.ready c.requires.waits) c.room_at.ensures.same c.in-Ok.ensures.within
    c.index-partner.ensures c.in-Ok-met_receiver.ensures c.pass.ensures
