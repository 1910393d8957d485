use Rattle.std.proofs.Common.{refl}
use Rattle.pfc_meeting.proofs.Both.{roomier_so}
use Rattle.pfc_accepting.proofs.Room.{own_room_so}
use Rattle.pfc_accepting.proofs.beginning.room_for_meeting.Goals as goal

pub returns-clause-other : goal.returns-clause-other
returns-clause-other c =
    roomier_so c.args.state.now _ c.args.q c.index_mut.result.now c.make_room.new.activity c.index_mut.ensures.value c.make_room.ensures.same refl refl

pub returns-clause-own : goal.returns-clause-own
returns-clause-own c =
    own_room_so c.args.state.now _ c.args.q c.index_mut.result.now c.make_room.new.activity c.index_mut.ensures.value
    c.make_room.ensures.same c.make_room.ensures.doing
    refl refl
