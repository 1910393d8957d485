use Rattle.pfc_activating.proofs.Ended.{ends_where_it_is}
use Rattle.pfc_activating.proofs.ending.end_at.Goals as goal

pub returns : goal.returns
returns c = λ source g c' k choice y n bytes mirrors acting sound there e lines output.
    ends_where_it_is source g c.args.state.now c.end_action.new.self c' k c.args.p choice y n bytes c.args.line mirrors acting sound there e lines output
    (c.end_action.ensures.activity y there) c.end_action.ensures.kept c.end_action.ensures.world c.end_action.ensures.fresh
