use Rattle.pfc_type_laws.proofs.WalkBlocks.{types_built}
use Rattle.pfc_type_laws.proofs.laws.tables_are_built_up.Goals as goal

pub returns : goal.returns
returns c = λ t. types_built t
