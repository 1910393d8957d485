use Rattle.pfc_scan.proofs.One.{one_cut}
use Rattle.pfc_scan.proofs.laws.one_cutting.Goals as goal

pub returns : goal.returns
returns c text a b h k = one_cut h k
