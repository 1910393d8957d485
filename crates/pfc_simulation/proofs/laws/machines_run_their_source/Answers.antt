use Rattle.pfc_simulation.proofs.Simulating.{runs_alike}
use Rattle.pfc_simulation.proofs.laws.machines_run_their_source.Goals as goal

pub returns : goal.returns
returns c = λ facts input seed limit picking m kept numbered numbers is. runs_alike facts input seed limit picking m kept numbered numbers is
