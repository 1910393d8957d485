use Rattle.std.proofs.Common.{ℕ, List, set, ap, ◌∙◌}
use Rattle.std.proofs.lemmas.List.{set-set}
use Rattle.pfc_world.specs.Transitions.{ticked}
use Rattle.pfc_pending.specs.declared.at_hand.At.TheVariants as at
use Rattle.pfc_activities.specs.declared.activities.Activity.{Activity}
use Rattle.pfc_activities.specs.declared.state.State.{State}
use Rattle.pfc_activities.specs.Views.{at_work, at_line}
use Rattle.pfc_activities.proofs.Acting.{and_line, kept_twice, put_in}
use Rattle.pfc_guarding.specs.Barring.{showing_bar}
use Rattle.pfc_guarding.proofs.Waits.{waits_barred}
use Rattle.pfc_guarding.proofs.barring.wait_barred.Goals as goal

pub returns : goal.returns
returns c = λ source g c' k choice a n before acting sound e lines output.
    let there = before.there in
    let old : State = c.args.state.now in
    let work : State = c.set_at_work.new.self in
    let shows : State = c.show_bar.new.state in
    let new : State = c.end_action.new.self in
    let ys : List Activity = old.activities.items in
    let p : ℕ = c.args.p in
    let one : Activity = at_work a at.Rest in
    let two : Activity = showing_bar one c.args.bar in
    let worked = c.set_at_work.ensures.activity a there in
    let shown = c.show_bar.ensures.activity one (put_in ys work.activities.items p a one there worked)
    ∙ ap (λ (l : List Activity). set l p two) worked ∙ set-set ys p one two in
    waits_barred source g old new c' k p choice a n c.args.bar before acting sound e lines output
    (and_line ys shows.activities.items new.activities.items p a two c.line_of-line.result there shown c.end_action.ensures.activity
    ∙ ap (λ (l : ℕ). set ys p (at_line two l)) (c.line_of-line.ensures a there))
    (kept_twice old shows new (kept_twice old work shows c.set_at_work.ensures.kept c.show_bar.ensures.kept) c.end_action.ensures.kept)
    (c.end_action.ensures.world ∙ ap ticked (c.show_bar.ensures.world ∙ c.set_at_work.ensures.world)) c.end_action.ensures.fresh
