use Rattle.std.proofs.Common.{sym}
use Rattle.pfc_meeting.proofs.BothPass.{another, roomier_stays}
use Rattle.pfc_meeting.proofs.Waking.{may_act_still}
use Rattle.pfc_deciding.proofs.Passing.{receives_own}
use Rattle.pfc_deciding.proofs.Ways.{may_alike, room_under, there_is, waits_under}
use Rattle.pfc_deciding.proofs.messages.receives_from.Goals as goal

pub take_way-requires-clause-room : goal.take_way-requires-clause-room
take_way-requires-clause-room c =
    c.room_at.ensures.others c.args.p (λ h. another c.args.state.now.world.rows c.args.p c.args.q c.requires.may.ready c.requires.waits (sym h)) c.requires.room

pub pass-requires-clause-may : goal.pass-requires-clause-may
pass-requires-clause-may c =
    may_alike c.room_at.new.state c.take_way.new.state c.args.p
    (may_act_still c.args.state.now c.room_at.new.state c.args.p c.args.q c.requires.may c.room_at.ensures.same)
    c.take_way.ensures.alike

pub pass-requires-clause-waits : goal.pass-requires-clause-waits
pass-requires-clause-waits c =
    waits_under c.args.state.now c.room_at.new.state c.take_way.new.state c.args.p c.args.q c.args.way
    c.room_at.ensures.same c.take_way.ensures c.requires.waits

pub pass-requires-clause-room : goal.pass-requires-clause-room
pass-requires-clause-room c =
    room_under c.room_at.new.state c.take_way.new.state c.args.p c.args.q c.args.way c.index-partner.result.now c.take_way.ensures
    (another c.args.state.now.world.rows c.args.p c.args.q c.requires.may.ready c.requires.waits)
    (there_is c.room_at.new.state.activities.items c.args.q c.index-partner.result.now c.in-Ok.ensures.within c.index-partner.ensures) c.in-Ok.ensures.room

pub returns-in_default-clause-err : goal.returns-in_default-clause-err
returns-in_default-clause-err c =
    roomier_stays c.args.state.now c.room_at.new.state c.args.p c.args.q
    (another c.args.state.now.world.rows c.args.p c.args.q c.requires.may.ready c.requires.waits) c.room_at.ensures.same

pub returns-in_default-met_sender-clause-err : goal.returns-in_default-met_sender-clause-err
returns-in_default-met_sender-clause-err c =
    roomier_stays c.args.state.now c.room_at.new.state c.args.p c.args.q
    (another c.args.state.now.world.rows c.args.p c.args.q c.requires.may.ready c.requires.waits) c.room_at.ensures.same

pub returns-in_default-place_of-clause-err : goal.returns-in_default-place_of-clause-err
returns-in_default-place_of-clause-err c =
    roomier_stays c.args.state.now c.room_at.new.state c.args.p c.args.q
    (another c.args.state.now.world.rows c.args.p c.args.q c.requires.may.ready c.requires.waits) c.room_at.ensures.same

pub returns-clause-ok : goal.returns-clause-ok
returns-clause-ok c =
    receives_own c.args.state.now c.room_at.new.state c.take_way.new.state c.pass.new.state c.args.p c.args.q c.args.channel c.args.way c.args.target.now
    c.in-Ok-met_sender.met.value c.in-Ok-place_of.into c.in-Ok-met_sender.met.way c.index-partner.result.now c.index.result.now c.pass.result
    (another c.args.state.now.world.rows c.args.p c.args.q c.requires.may.ready c.requires.waits) c.room_at.ensures.same c.take_way.ensures
    c.in-Ok.ensures.within c.index-partner.ensures c.index.ensures c.in-Ok-met_sender.ensures c.in-Ok-place_of.ensures c.pass.ensures
