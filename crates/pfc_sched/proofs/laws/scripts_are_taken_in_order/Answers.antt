use Rattle.pfc_sched.proofs.ScriptLaws.{takes_in_order}
use Rattle.pfc_sched.proofs.laws.scripts_are_taken_in_order.Goals as goal

pub returns : goal.returns
returns c = takes_in_order
