use Rattle.pfc_image_numbers.proofs.Images.{lawful_image, checked_image}
use Rattle.pfc_image_numbers.proofs.laws.numbers_are_there.Goals as goal

pub returns-clause-lawful : goal.returns-clause-lawful
returns-clause-lawful c = λ t lawful. lawful_image t lawful

pub returns-clause-checked : goal.returns-clause-checked
returns-clause-checked c = λ t lawful whole. checked_image t lawful whole
