use Rattle.std.proofs.Common.{refl, sym, ◌∙◌}
use Rattle.std.proofs.lemmas.Result.{IfOk-weaker, on_err_weaker}
use Rattle.pfc_meeting.proofs.BothPass.{another, roomier_stays}
use Rattle.pfc_accepting.proofs.Entering.{entered_so, entered_stop, entered_in_room}
use Rattle.pfc_accepting.proofs.Room.{stays_so, stays_still, at_refusal}
use Rattle.pfc_accepting.proofs.calling.enters_at.Goals as goal

pub returns-in_err-q-clause-err : goal.returns-in_err-q-clause-err
returns-in_err-q-clause-err c = at_refusal c.from_residual.result _ (stays_still c.args.state.now c.args.state.now c.args.p refl)

pub returns-in_err-values-clause-err : goal.returns-in_err-values-clause-err
returns-in_err-values-clause-err c = at_refusal c.from_residual-in_err-values.result _ (stays_still c.args.state.now c.args.state.now c.args.p refl)

pub returns-then-is_uncalled-clause-ok : goal.returns-then-is_uncalled-clause-ok
returns-then-is_uncalled-clause-ok c =
    entered_so c.args.source.now c.args.state.now c.end_in_fault.new.self c.args.p c.in_ok-q.q c.args.entry c.args.spot.now c.args.args.now
    c.in_ok-values.values.items c.index.result.now c.end_in_fault.result c.index.ensures c.in_ok-q.ensures c.in_ok-values.ensures
    (entered_stop c.args.source.now c.args.state.now c.end_in_fault.new.self c.args.p c.in_ok-q.q c.args.entry c.in_ok-values.values.items
    c.end_in_fault.result (sym c.is_uncalled.ensures ∙ c.if-is_uncalled.true) c.end_in_fault.ensures)

pub returns-in_err-room_for_meeting-clause-err : goal.returns-in_err-room_for_meeting-clause-err
returns-in_err-room_for_meeting-clause-err c =
    at_refusal c.from_residual-in_err-room_for_meeting.result _
    (roomier_stays c.args.state.now c.room_for_meeting.new.state c.args.p c.in_ok-q.q
    (another c.args.state.now.world.rows c.args.p c.in_ok-q.q c.requires.ready (c.is_accepting.ensures.waits c.if-is_accepting.true))
    c.room_for_meeting.ensures.other)

pub returns-in_ok-room_for_meeting-clause-ok : goal.returns-in_ok-room_for_meeting-clause-ok
returns-in_ok-room_for_meeting-clause-ok c =
    IfOk-weaker c.meets_owner.result _ _
    (λ d entered.
    entered_so c.args.source.now c.args.state.now c.meets_owner.new.state c.args.p c.in_ok-q.q c.args.entry c.args.spot.now c.args.args.now
    c.in_ok-values.values.items c.index.result.now d c.index.ensures c.in_ok-q.ensures c.in_ok-values.ensures
    (entered_in_room c.args.source.now c.args.state.now c.room_for_meeting.new.state c.meets_owner.new.state c.args.p c.in_ok-q.q c.args.entry
    c.in_ok-values.values.items d
    (another c.args.state.now.world.rows c.args.p c.in_ok-q.q c.requires.ready (c.is_accepting.ensures.waits c.if-is_accepting.true))
    c.room_for_meeting.ensures.other entered))
    c.meets_owner.ensures.ok

pub returns-in_ok-room_for_meeting-clause-err : goal.returns-in_ok-room_for_meeting-clause-err
returns-in_ok-room_for_meeting-clause-err c =
    on_err_weaker c.meets_owner.result
    (stays_so c.args.state.now c.room_for_meeting.new.state c.meets_owner.new.state c.args.p
    (roomier_stays c.args.state.now c.room_for_meeting.new.state c.args.p c.in_ok-q.q
    (another c.args.state.now.world.rows c.args.p c.in_ok-q.q c.requires.ready (c.is_accepting.ensures.waits c.if-is_accepting.true))
    c.room_for_meeting.ensures.other))
    c.meets_owner.ensures.err

pub returns-else-is_accepting-clause-ok : goal.returns-else-is_accepting-clause-ok
returns-else-is_accepting-clause-ok c =
    entered_so c.args.source.now c.args.state.now c.waits_for_owner.new.state c.args.p c.in_ok-q.q c.args.entry c.args.spot.now c.args.args.now
    c.in_ok-values.values.items c.index.result.now c.waits_for_owner.result c.index.ensures c.in_ok-q.ensures c.in_ok-values.ensures
    (c.waits_for_owner.ensures c.args.source.now)
