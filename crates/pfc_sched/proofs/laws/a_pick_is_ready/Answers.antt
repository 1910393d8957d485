use Rattle.pfc_sched.proofs.PickLaws.{picks_ready}
use Rattle.pfc_sched.proofs.laws.a_pick_is_ready.Goals as goal

pub returns : goal.returns
returns c = picks_ready
