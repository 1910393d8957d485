use Rattle.pfc_monitor_laws.proofs.Places.{its_monitors}
use Rattle.pfc_monitor_laws.proofs.laws.conditions_are_of_their_monitors.Goals as goal

pub returns : goal.returns
returns c = λ t i place m path o lawful clean named leads. its_monitors t lawful clean i place m path o named leads
