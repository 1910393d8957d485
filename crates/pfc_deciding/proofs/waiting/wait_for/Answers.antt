use Rattle.std.proofs.Common.{ℕ, ◌≤◌, length, sym, ap, ◌∙◌, subst}
use Rattle.pfc_world.specs.Selects.{matched}
use Rattle.pfc_world.specs.Tables.{Table}
use Rattle.pfc_activities.specs.declared.activities.Activity.{Activity}
use Rattle.pfc_activities.specs.declared.state.State.{State}
use Rattle.pfc_deciding.specs.Waiting.{due_at}
use Rattle.pfc_deciding.proofs.Timing.{late_so, waits_for_so}
use Rattle.pfc_deciding.proofs.Ways.{may_alike}
use Rattle.pfc_deciding.proofs.waiting.wait_for.Goals as goal

pub returns-in_default : goal.returns-in_default
returns-in_default c =
    late_so c.args.state.now c.end_in_fault.new.self c.args.p c.args.select c.args.seconds c.args.way c.end_in_fault.result
    (c.in_default.ensures ∙ ap (λ (m : ℕ). due_at m c.args.seconds) c.now.ensures) c.end_in_fault.ensures

pub wait_until-requires-clause-may : goal.wait_until-requires-clause-may
wait_until-requires-clause-may c = may_alike c.args.state.now c.take_way.new.state c.args.p c.requires.may c.take_way.ensures.alike

pub wait_until-requires-clause-room : goal.wait_until-requires-clause-room
wait_until-requires-clause-room c =
    subst (λ (w : Table). length c.args.arms.now ≤ w.room) (sym (ap (λ (x : State). x.world) c.take_way.ensures.alike.rest)) c.requires.room

pub wait_until-requires-clause-unmatched : goal.wait_until-requires-clause-unmatched
wait_until-requires-clause-unmatched c =
    ap (λ (x : State). matched x.world.rows c.args.p c.args.arms.now) c.take_way.ensures.alike.rest ∙ c.requires.unmatched

pub returns : goal.returns
returns c =
    let here : Activity = c.index.result.now in
    waits_for_so c.args.state.now c.take_way.new.state c.wait_until.new.state c.args.p c.args.select c.args.arms.now c.len-kept.result c.args.seconds
    c.in-Some.due c.args.way c.wait_until.result c.requires.arms
    (λ a there. c.len-kept.ensures ∙ here.doing.pending.ok.0 ∙ ap (λ (b : Activity). length b.doing.pending.items) (c.index.ensures ∙ there.is here))
    (c.in-Some.ensures ∙ ap (λ (m : ℕ). due_at m c.args.seconds) c.now.ensures) c.take_way.ensures c.wait_until.ensures
