use Rattle.pfc_scan.proofs.Computed.{cut_is}
use Rattle.pfc_scan.proofs.laws.a_cutting_is_computed.Goals as goal

pub returns : goal.returns
returns c text = cut_is text
