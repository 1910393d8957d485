use Rattle.pfc_type_laws.proofs.Filled.{types_filled}
use Rattle.pfc_type_laws.proofs.laws.types_take_cells.Goals as goal

pub returns : goal.returns
returns c = λ t u lawful. types_filled t lawful u
