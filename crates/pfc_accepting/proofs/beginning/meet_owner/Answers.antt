use Rattle.std.proofs.Common.{ap, ◌∙◌}
use Rattle.pfc_world.specs.Transitions.{ticked}
use Rattle.pfc_activities.proofs.Acting.{kept_twice}
use Rattle.pfc_accepting.proofs.Taking.{met_so}
use Rattle.pfc_accepting.proofs.beginning.meet_owner.Goals as goal

pub returns : goal.returns
returns c =
    met_so c.args.state.now c.begin_at.new.state c.end_action.new.self c.args.p c.args.q c.args.values.items c.args.meeting
    c.set_at_work.new.self.activities.items c.line_of-line.result c.requires.other c.begin_at.ensures c.line_of-line.ensures c.set_at_work.ensures.activity
    c.end_action.ensures.activity
    (kept_twice c.begin_at.new.state c.set_at_work.new.self c.end_action.new.self c.set_at_work.ensures.kept c.end_action.ensures.kept)
    (c.end_action.ensures.world ∙ ap ticked c.set_at_work.ensures.world) c.end_action.ensures.fresh
