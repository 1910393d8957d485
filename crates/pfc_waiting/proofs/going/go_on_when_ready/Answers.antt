use Rattle.std.proofs.Common.{ℕ, set, ap, ◌∙◌}
use Rattle.pfc_world.specs.Transitions.{ticked}
use Rattle.pfc_activities.specs.Views.{at_work, at_line}
use Rattle.pfc_activities.proofs.Acting.{and_line, kept_twice}
use Rattle.pfc_waiting.proofs.Waiting.{goes_on_later}
use Rattle.pfc_waiting.proofs.going.go_on_when_ready.Goals as goal

pub returns : goal.returns
returns c = λ source g c' k choice a n doing bytes before acting sound e nexts lines output.
    let there = before.there in
    let old = c.args.state.now in
    let work = c.set_at_work.new.self in
    let new = c.end_action.new.self in
    goes_on_later source g old new c' k c.args.p choice a n doing bytes c.args.at before acting sound e nexts lines output
    (and_line old.activities.items work.activities.items new.activities.items c.args.p a (at_work a c.args.at)
    c.line_of-line.result there (c.set_at_work.ensures.activity a there) c.end_action.ensures.activity
    ∙ ap (λ (l : ℕ). set old.activities.items c.args.p (at_line (at_work a c.args.at) l)) (c.line_of-line.ensures a there))
    (kept_twice old work new c.set_at_work.ensures.kept c.end_action.ensures.kept)
    (c.end_action.ensures.world ∙ ap ticked c.set_at_work.ensures.world) c.end_action.ensures.fresh
