use Rattle.std.proofs.Common.{sym, ◌∙◌}
use Rattle.pfc_activities.proofs.Acting.{ends_in_fault}
use Rattle.pfc_activities.proofs.state.State.end_in_fault.Goals as goal

pub returns : goal.returns
returns c = λ source g c' choice a n is_at e lines.
    let there = is_at.before.there in
    ends_in_fault source g c.args.self.now c.end_action.new.self c' c.args.p choice a n c.line_of-line.result c.args.fault is_at e
    (lines ∙ sym (c.line_of-line.ensures a there)) (c.end_action.ensures.activity a there) c.end_action.ensures.world
