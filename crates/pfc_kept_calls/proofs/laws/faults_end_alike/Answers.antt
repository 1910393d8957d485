use Rattle.pfc_kept_calls.proofs.Faults.{faulted}
use Rattle.pfc_kept_calls.proofs.laws.faults_end_alike.Goals as goal

pub returns : goal.returns
returns c = λ facts m config p level line f acting. faulted facts m config p level acting line f
