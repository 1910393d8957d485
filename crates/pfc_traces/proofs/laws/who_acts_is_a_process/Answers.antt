use Rattle.pfc_traces.proofs.Acting.{acts_within}
use Rattle.pfc_traces.proofs.laws.who_acts_is_a_process.Goals as goal

pub returns : goal.returns
returns c = acts_within
