use Rattle.std.proofs.Common.{ℕ, set, ap, ◌∙◌}
use Rattle.pfc_world.specs.Transitions.{ticked}
use Rattle.pfc_activities.specs.Views.{at_work, at_line}
use Rattle.pfc_activities.proofs.Acting.{goes_on_so, and_line, kept_twice}
use Rattle.pfc_activities.proofs.state.State.go_on.Goals as goal

pub returns : goal.returns
returns c = λ source g c' k choice a n doing bytes is_at e nexts lines output.
    let there = is_at.before.there in
    goes_on_so source g c.args.self.now c.end_action.new.self c' k c.args.p choice a n doing bytes c.args.at is_at e nexts lines output
    (and_line c.args.self.now.activities.items c.set_at_work.new.self.activities.items c.end_action.new.self.activities.items c.args.p a (at_work a c.args.at)
    c.line_of-line.result there (c.set_at_work.ensures.activity a there) c.end_action.ensures.activity
    ∙ ap (λ (l : ℕ). set c.args.self.now.activities.items c.args.p (at_line (at_work a c.args.at) l)) (c.line_of-line.ensures a there))
    (kept_twice c.args.self.now c.set_at_work.new.self c.end_action.new.self c.set_at_work.ensures.kept c.end_action.ensures.kept)
    (c.end_action.ensures.world ∙ ap ticked c.set_at_work.ensures.world) c.end_action.ensures.fresh
