use Rattle.pfc_meet.proofs.Unpairing.{another}
use Rattle.pfc_meet.proofs.laws.a_partner_is_another_process.Goals as goal

pub returns : goal.returns
returns c = another
