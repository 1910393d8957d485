use Rattle.pfc_races.proofs.Runs.{few}
use Rattle.pfc_races.proofs.laws.events_are_few.Goals as goal

pub returns : goal.returns
returns c = few
