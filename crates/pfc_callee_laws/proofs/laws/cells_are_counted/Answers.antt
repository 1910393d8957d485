use Rattle.pfc_callee_laws.proofs.Program.{its_layout}
use Rattle.pfc_callee_laws.proofs.laws.cells_are_counted.Goals as goal

pub returns : goal.returns
returns c = λ t k b lawful there. (its_layout t lawful k b there).cells
