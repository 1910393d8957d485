use Rattle.pfc_callee_laws.proofs.Mains.{of_mains}
use Rattle.pfc_callee_laws.proofs.laws.mains_bodies_stand.Goals as goal

pub returns : goal.returns
returns c = λ t i b lawful there. of_mains t lawful i b there
