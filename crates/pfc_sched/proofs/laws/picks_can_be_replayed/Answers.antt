use Rattle.pfc_sched.proofs.ScriptLaws.{replays}
use Rattle.pfc_sched.proofs.laws.picks_can_be_replayed.Goals as goal

pub returns : goal.returns
returns c = replays
