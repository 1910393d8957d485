use Rattle.pfc_image_laws.proofs.Levels.{blocks_reached, main_reached}
use Rattle.pfc_image_laws.proofs.MainLevels.{image_main_links}
use Rattle.pfc_image_laws.proofs.Modules.{program_inits}
use Rattle.pfc_image_laws.proofs.laws.levels_are_reached.Goals as goal

pub returns-clause-blocks : goal.returns-clause-blocks
returns-clause-blocks c = λ t lawful. blocks_reached t lawful

pub returns-clause-main : goal.returns-clause-main
returns-clause-main c = λ t. main_reached t

pub returns-clause-inits : goal.returns-clause-inits
returns-clause-inits c = λ t lawful. program_inits t lawful

pub returns-clause-main_code : goal.returns-clause-main_code
returns-clause-main_code c = λ t lawful b last. image_main_links t lawful b last
