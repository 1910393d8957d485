use Rattle.pfc_races.proofs.Runs.{kept}
use Rattle.pfc_races.proofs.laws.events_are_kept_step_by_step.Goals as goal

pub returns : goal.returns
returns c = kept
