use Rattle.std.proofs.Common.{refl, set, ap, ◌∙◌}
use Rattle.pfc_world.specs.Transitions.{ticked}
use Rattle.pfc_activities.specs.Relation.{IsKept}
use Rattle.pfc_activities.proofs.Acting.{kept_twice}
use Rattle.pfc_meeting.proofs.Both.{both_so}
use Rattle.pfc_meeting.proofs.passing.go_on_with.Goals as goal

pub returns : goal.returns
returns c =
    let kept = c.set_at_work.ensures.kept in
    let first : IsKept c.args.state.now c.set_at_work.new.self
    = record {
      semaphores = kept.semaphores;
      monitors = kept.monitors;
      resources = kept.resources;
      store = kept.store;
      input = kept.input;
      draws = kept.draws;
    } in
    both_so c.args.state.now c.end_action.new.self c.args.p c.args.q c.args.way (set c.args.state.now.activities.items c.args.q c.go_onward.new.activity)
    c.set_at_work.new.self.activities.items c.index_mut.result.now c.go_onward.new.activity c.line_of-line.result c.requires.other c.index_mut.ensures.value
    c.go_onward.ensures.shown c.line_of-line.ensures refl c.set_at_work.ensures.activity c.end_action.ensures.activity
    (kept_twice c.args.state.now c.set_at_work.new.self c.end_action.new.self first c.end_action.ensures.kept)
    (c.end_action.ensures.world ∙ ap ticked c.set_at_work.ensures.world) c.end_action.ensures.fresh
