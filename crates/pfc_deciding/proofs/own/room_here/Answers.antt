use Rattle.std.proofs.Common.{refl}
use Rattle.pfc_deciding.proofs.Ways.{room_stays}
use Rattle.pfc_deciding.proofs.own.room_here.Goals as goal

pub returns-clause-same : goal.returns-clause-same
returns-clause-same c =
    room_stays c.args.state.now _ c.args.p c.index_mut.result.now c.make_room.new.activity c.index_mut.ensures.value c.make_room.ensures.same
    c.make_room.ensures.doing refl refl
