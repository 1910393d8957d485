use Rattle.pfc_monitor_laws.proofs.Tokens.{few_monitors}
use Rattle.pfc_monitor_laws.proofs.laws.monitors_are_few.Goals as goal

pub returns : goal.returns
returns c = λ t lawful. few_monitors t lawful
