use Rattle.pfc_image_alternatives.proofs.Images.{few_in_image}
use Rattle.pfc_image_alternatives.proofs.laws.alternatives_are_few.Goals as goal

pub returns : goal.returns
returns c = few_in_image
