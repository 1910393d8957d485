use Rattle.std.proofs.lemmas.Result.{IfOk-weaker, on_err_weaker}
use Rattle.pfc_accepting.proofs.Room.{stays_so}
use Rattle.pfc_deciding.specs.Accepting.{accepts_it}
use Rattle.pfc_deciding.proofs.Calls.{comes_in_room}
use Rattle.pfc_deciding.proofs.accepting.accepts_by.Goals as goal

pub returns-clause-ok : goal.returns-clause-ok
returns-clause-ok c =
    IfOk-weaker c.accepts_in_room.result _ _
    (λ d. comes_in_room c.args.source.now c.args.state.now c.room_for_meeting.new.state c.accepts_in_room.new.state c.args.p
    (accepts_it c.args.accepting c.args.way c.args.caller c.args.p) d c.room_for_meeting.ensures.own)
    c.accepts_in_room.ensures.ok

pub returns-clause-err : goal.returns-clause-err
returns-clause-err c =
    on_err_weaker c.accepts_in_room.result
    (stays_so c.args.state.now c.room_for_meeting.new.state c.accepts_in_room.new.state c.args.p c.room_for_meeting.ensures.own) c.accepts_in_room.ensures.err
