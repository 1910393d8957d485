use Rattle.pfc_meeting.proofs.BothPass.{another}
use Rattle.pfc_accepting.proofs.Entering.{owner_met, accepting_waits}
use Rattle.pfc_accepting.proofs.calling.meets_owner.Goals as goal

pub returns-clause-ok : goal.returns-clause-ok
returns-clause-ok c =
    let rows = c.args.state.now.world.rows in
    owner_met c.args.source.now c.args.state.now c.meet_owner.new.state c.call_by.new.world c.args.p c.args.q c.args.entry c.args.values.items
    c.index-partner.result.now c.in_ok-owner.owner c.in_ok-meeting.meeting c.meet_owner.result
    (another rows c.args.p c.args.q c.requires.may.ready (accepting_waits rows c.args.q c.args.entry c.requires.accepting)) c.requires.within c.requires.active
    c.requires.accepting c.index-partner.ensures c.in_ok-owner.ensures c.in_ok-meeting.ensures c.call_by.ensures.rule c.call_by.ensures.acted
    c.meet_owner.ensures
