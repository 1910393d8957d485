use Rattle.std.proofs.Common.{refl, ◌∙◌}
use Rattle.pfc_meeting.specs.declared.onward.Onward.{Onward}
use Rattle.pfc_deciding.proofs.Calls.{accepts_own}
use Rattle.pfc_deciding.proofs.accepting.accepts_in_room.Goals as goal

pub returns-clause-ok : goal.returns-clause-ok
returns-clause-ok c =
    let gone : Onward = record { kept = c.len-2.result; replica = c.args.way.replica; next = c.args.way.next; stmts = c.args.way.stmts } in
    accepts_own c.args.source.now c.args.state.now c.take_caller.new.state c.take_by.new.world c.args.p c.args.caller c.args.accepting c.args.way gone
    c.len-2.result c.index-own.result.now c.in-Ok.meeting c.take_caller.result c.index-own.ensures refl
    (c.len-2.ensures ∙ c.index-own.result.now.doing.pending.ok.0) c.in-Ok.ensures c.take_by.ensures.rule c.take_by.ensures.acted c.take_caller.ensures
