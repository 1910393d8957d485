use Rattle.std.proofs.Common.{ap, ◌∙◌}
use Rattle.pfc_state.specs.Waits.{is_select}
use Rattle.pfc_accepting.proofs.Standings.{accepting_so}
use Rattle.pfc_accepting.proofs.rules.is_accepting.Goals as goal

pub returns-in-Waiting-Select-clause-answer : goal.returns-in-Waiting-Select-clause-answer
returns-in-Waiting-Select-clause-answer c =
    c.is_some.ensures
    ∙ accepting_so c.args.owner c.args.entry _ c.state.result _ c.offer_at.result c.state.ensures.state c.in-Waiting-Select.is
    (ap is_select c.in-Waiting-Select.field-0-is) c.offer_at.ensures
