use Rattle.std.proofs.Common.{ap}
use Rattle.pfc_state.specs.Waits.{is_select}
use Rattle.pfc_meet.proofs.Acceptances.{in-select}
use Rattle.pfc_meet.proofs.partners.acceptance.Goals as goal

pub returns-in-Some-clause-partner : goal.returns-in-Some-clause-partner
returns-in-Some-clause-partner c =
    in-select c.args.owner c.args.entry _ _ _ _ _ c.state.ensures.state c.in-Waiting-Select.is
    (ap is_select c.in-Waiting-Select.field-0-is) c.offer_at.ensures c.in-Some.is

pub returns-in-None-clause-partner : goal.returns-in-None-clause-partner
returns-in-None-clause-partner c =
    in-select c.args.owner c.args.entry _ _ _ _ _ c.state.ensures.state c.in-Waiting-Select.is
    (ap is_select c.in-Waiting-Select.field-0-is) c.offer_at.ensures c.in-None.is
