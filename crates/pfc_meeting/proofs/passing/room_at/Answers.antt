use Rattle.std.proofs.Common.{refl}
use Rattle.pfc_meeting.proofs.Both.{roomier_so, rooms_kept}
use Rattle.pfc_meeting.proofs.passing.room_at.Goals as goal

pub returns-clause-same : goal.returns-clause-same
returns-clause-same c =
    roomier_so c.args.state.now _ c.args.q c.index_mut.result.now c.make_room.new.activity c.index_mut.ensures.value c.make_room.ensures.same refl refl

pub returns-clause-others : goal.returns-clause-others
returns-clause-others c = λ x other room. rooms_kept c.args.state.now.activities.items c.args.q x c.make_room.new.activity other room
