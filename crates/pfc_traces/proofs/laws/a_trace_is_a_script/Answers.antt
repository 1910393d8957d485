use Rattle.pfc_traces.proofs.Reading.{reads_back}
use Rattle.pfc_traces.proofs.laws.a_trace_is_a_script.Goals as goal

pub returns : goal.returns
returns c = reads_back
