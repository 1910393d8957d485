use Rattle.pfc_run_laws.proofs.Runs.{run_grows}
use Rattle.pfc_run_laws.proofs.laws.output_only_grows.Goals as goal

pub returns : goal.returns
returns c = λ g limit left picking d. run_grows g limit left picking d
