use Rattle.pfc_races.proofs.Runs.{its_actions}
use Rattle.pfc_races.proofs.laws.steps_are_the_actions_of_a_run.Goals as goal

pub returns : goal.returns
returns c = its_actions
