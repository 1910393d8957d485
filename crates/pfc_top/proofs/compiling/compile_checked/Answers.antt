use Rattle.pfc_code.specs.Images.{plain_image}
use Rattle.pfc_tree.specs.views.Parts.{tree_view}
use Rattle.pfc_top.proofs.Images.{is_image, large_refusal}
use Rattle.pfc_top.proofs.compiling.compile_checked.Goals as goal

pub returns-in-Ok-clause-image : goal.returns-in-Ok-clause-image
returns-in-Ok-clause-image c =
    is_image (tree_view c.args.checked.now.0) (plain_image c.in-Ok.image) c.requires.checked.small c.requires.checked.whole c.requires.fits
    c.in-Ok.ensures.image c.in-Ok.ensures.fits

pub returns-in-Err-TooLarge-clause-none : goal.returns-in-Err-TooLarge-clause-none
returns-in-Err-TooLarge-clause-none c =
    large_refusal (tree_view c.args.checked.now.0) c.requires.checked.whole (c.in-Err-TooLarge.ensures.large c.in-Err-TooLarge.field-0-is)
