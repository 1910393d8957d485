use Rattle.pfc_checked_runs.proofs.arrived.Requeueing.{requeues_inside}
use Rattle.pfc_checked_runs.proofs.laws.requeues_stand_inside.Goals as goal

pub returns : goal.returns
returns c = λ facts m d p level acting arrived. requeues_inside facts m d p level acting arrived
