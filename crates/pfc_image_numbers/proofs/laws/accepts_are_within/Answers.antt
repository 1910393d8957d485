use Rattle.pfc_image_numbers.proofs.Images.{blocks_cells, main_cells_there}
use Rattle.pfc_image_numbers.proofs.laws.accepts_are_within.Goals as goal

pub returns-clause-blocks : goal.returns-clause-blocks
returns-clause-blocks c = λ t lawful whole. blocks_cells t lawful whole

pub returns-clause-main : goal.returns-clause-main
returns-clause-main c = λ t lawful whole. main_cells_there t lawful whole
