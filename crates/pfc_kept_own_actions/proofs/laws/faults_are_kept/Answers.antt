use Rattle.pfc_kept_own_actions.proofs.Faulting.{faults_kept}
use Rattle.pfc_kept_own_actions.proofs.laws.faults_are_kept.Goals as goal

pub returns : goal.returns
returns c = faults_kept
