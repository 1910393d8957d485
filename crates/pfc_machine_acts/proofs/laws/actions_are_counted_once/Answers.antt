use Rattle.pfc_machine_acts.proofs.Clock.{acts_keep}
use Rattle.pfc_machine_acts.proofs.laws.actions_are_counted_once.Goals as goal

pub returns : goal.returns
returns c = acts_keep
