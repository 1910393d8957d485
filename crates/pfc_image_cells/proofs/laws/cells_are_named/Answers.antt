use Rattle.pfc_image_cells.proofs.Cells.{blocks_name, main_names, initial_names}
use Rattle.pfc_image_cells.proofs.laws.cells_are_named.Goals as goal

pub returns-clause-blocks : goal.returns-clause-blocks
returns-clause-blocks c = λ t lawful whole. blocks_name t lawful whole

pub returns-clause-main : goal.returns-clause-main
returns-clause-main c = λ t lawful whole. main_names t lawful whole

pub returns-clause-initial : goal.returns-clause-initial
returns-clause-initial c = λ t lawful whole. initial_names t lawful whole
