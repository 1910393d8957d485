use Rattle.pfc_image_cells.proofs.Layouts.{cell_below}
use Rattle.pfc_image_cells.proofs.laws.cells_are_below.Goals as goal

pub returns : goal.returns
returns c = λ forms b reference d some h. cell_below forms b reference d some h
