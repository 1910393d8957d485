use Rattle.pfc_traces.proofs.Replaying.{replays}
use Rattle.pfc_traces.proofs.laws.a_trace_replays_its_run.Goals as goal

pub returns : goal.returns
returns c = replays
