use Rattle.std.proofs.Common.{[]}
use Rattle.std.proofs.lemmas.Result.{IfOk-weaker, on_err_weaker}
use Rattle.pfc_pending.specs.declared.actions.Deed.TheVariants as deed
use Rattle.pfc_pending.specs.declared.select.Offer.TheVariants as offer
use Rattle.pfc_accepting.proofs.Room.{performs_in_room, stays_so, stays_still}
use Rattle.pfc_accepting.proofs.answering.accepts.Goals as goal

pub returns-in_ok-room_for_meeting-in-Some-clause-ok : goal.returns-in_ok-room_for_meeting-in-Some-clause-ok
returns-in_ok-room_for_meeting-in-Some-clause-ok c =
    IfOk-weaker c.accepts_from.result _ _
    (λ d. performs_in_room c.args.source.now c.args.state.now c.room_for_meeting.new.state c.accepts_from.new.state c.args.p
    (deed.Meets (offer.Accept c.args.accepting)) [] d c.room_for_meeting.ensures.own)
    c.accepts_from.ensures.ok

pub returns-in_ok-room_for_meeting-in-Some-clause-err : goal.returns-in_ok-room_for_meeting-in-Some-clause-err
returns-in_ok-room_for_meeting-in-Some-clause-err c =
    on_err_weaker c.accepts_from.result
    (stays_so c.args.state.now c.room_for_meeting.new.state c.accepts_from.new.state c.args.p c.room_for_meeting.ensures.own) c.accepts_from.ensures.err

pub returns-in-None-clause-err : goal.returns-in-None-clause-err
returns-in-None-clause-err c =
    on_err_weaker c.waits_for_caller.result (stays_still c.args.state.now c.waits_for_caller.new.state c.args.p) c.waits_for_caller.ensures.err
