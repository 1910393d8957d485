use Rattle.pfc_simulation.proofs.Simulating.{goes_on_agreeing}
use Rattle.pfc_simulation.proofs.laws.agreeing_machines_go_on_agreeing.Goals as goal

pub returns : goal.returns
returns c = λ facts left picking m config kept numbered numbers is. goes_on_agreeing facts left picking m config kept numbered numbers is
