use Rattle.pfc_stacks.proofs.Kept.{own_cells_kept}
use Rattle.pfc_stacks.proofs.laws.a_replacement_keeps_its_own_cells.Goals as goal

pub returns : goal.returns
returns c = own_cells_kept
