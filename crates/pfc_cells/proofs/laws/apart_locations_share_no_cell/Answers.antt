use Rattle.pfc_cells.proofs.Apart.{share_none}
use Rattle.pfc_cells.proofs.laws.apart_locations_share_no_cell.Goals as goal

pub returns : goal.returns
returns c = λ g homes entries store stacks l m t u r s sound memory one two x y apart.
    share_none g sound homes entries store stacks l m t u r s memory one two x y apart
