use Rattle.pfc_meet.proofs.Once.{once}
use Rattle.pfc_meet.proofs.laws.processes_terminate_once.Goals as goal

pub returns : goal.returns
returns c = once
