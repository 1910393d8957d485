use Rattle.pfc_meeting.proofs.BothPass.{another, received_so, roomier_stays}
use Rattle.pfc_messages.proofs.messages.receives_from.Goals as goal

pub returns-in_default-clause-err : goal.returns-in_default-clause-err
returns-in_default-clause-err c =
    roomier_stays c.args.state.now c.room_at.new.state c.args.p c.args.q
    (another c.args.state.now.world.rows c.args.p c.args.q c.requires.may.ready c.requires.waits) c.room_at.ensures.same

pub returns-in_default-met_sender-clause-err : goal.returns-in_default-met_sender-clause-err
returns-in_default-met_sender-clause-err c =
    roomier_stays c.args.state.now c.room_at.new.state c.args.p c.args.q
    (another c.args.state.now.world.rows c.args.p c.args.q c.requires.may.ready c.requires.waits) c.room_at.ensures.same

pub returns-in_default-place_of-clause-err : goal.returns-in_default-place_of-clause-err
returns-in_default-place_of-clause-err c =
    roomier_stays c.args.state.now c.room_at.new.state c.args.p c.args.q
    (another c.args.state.now.world.rows c.args.p c.args.q c.requires.may.ready c.requires.waits) c.room_at.ensures.same

pub returns-clause-ok : goal.returns-clause-ok
returns-clause-ok c =
    received_so c.args.state.now c.room_at.new.state c.pass.new.state c.args.p c.args.q c.args.channel c.args.target.now c.in-Ok-met_sender.met.value
    c.in-Ok-place_of.into c.in-Ok-met_sender.met.way c.index-partner.result.now c.index.result.now c.pass.result
    (another c.args.state.now.world.rows c.args.p c.args.q c.requires.may.ready c.requires.waits) c.room_at.ensures.same c.in-Ok.ensures.within
    c.index-partner.ensures c.index.ensures c.in-Ok-met_sender.ensures c.in-Ok-place_of.ensures c.pass.ensures
