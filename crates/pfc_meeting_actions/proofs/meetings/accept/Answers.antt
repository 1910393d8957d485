use Rattle.std.proofs.Common.{ℕ, drop, sym, subst}
use Rattle.pfc_stacks.specs.Effects.{passed}
use Rattle.pfc_stacks.specs.Stacks.{Stacks, operands_of}
use Rattle.pfc_machines.specs.declared.machine.Machine.{Machine}
use Rattle.pfc_meeting_actions.specs.Meetings.{CanMeet}
use Rattle.pfc_meeting_actions.proofs.meetings.accept.Goals as goal

-- the standings do not count for that
pub begin_meeting-requires : goal.begin_meeting-requires
begin_meeting-requires c =
    let m : Machine = c.args.machine.now in
    let over : Stacks → Machine = λ s. (let after : Machine = record m { stacks = s; world = c.rest.new.self } in after) in
    let left : ℕ → Stacks = λ p. passed m.stacks p (drop 0 (operands_of m.stacks p)) in
    let may = c.requires.caller c.in-Met.caller c.in-Met.ensures.answer.0 in
    let here : CanMeet (over (left c.args.r.number)) c.args.r.number c.args.d c.args.z c.in-Met.caller =
    record {
      descriptor = may.descriptor;
      room = may.room;
      stack = may.stack;
      held = may.held;
      live = may.live;
      cell = may.cell;
    } in
    let by_number : CanMeet (over (left c.number-p.result)) c.number-p.result c.args.d c.args.z c.in-Met.caller =
    subst (λ (p : ℕ). CanMeet (over (left p)) p c.args.d c.args.z c.in-Met.caller) (sym c.number-p.ensures) here in
    subst (λ (s : Stacks). CanMeet (over s) c.number-p.result c.args.d c.args.z c.in-Met.caller) (sym c.leave.ensures) by_number
