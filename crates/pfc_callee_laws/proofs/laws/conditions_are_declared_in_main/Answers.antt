use Rattle.pfc_callee_laws.proofs.Program.{unheld}
use Rattle.pfc_callee_laws.proofs.laws.conditions_are_declared_in_main.Goals as goal

pub returns : goal.returns
returns c = λ t i k x u reference lawful apart there. unheld t lawful i k x u reference apart there
