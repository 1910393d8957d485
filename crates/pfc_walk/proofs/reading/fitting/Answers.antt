use Rattle.pfc_tree.specs.views.Parts.{tree_view}
use Rattle.pfc_walk.proofs.Readings.{fitting_program, large_refusal}
use Rattle.pfc_walk.proofs.reading.fitting.Goals as goal

pub returns-in-Ok-clause-sound : goal.returns-in-Ok-clause-sound
returns-in-Ok-clause-sound c =
    fitting_program (tree_view c.args.checked.now.0) c.in-Ok.field-0 c.requires c.in-Ok.ensures.value c.in-Ok.ensures.fits

pub returns-in-Err-TooLarge-clause-none : goal.returns-in-Err-TooLarge-clause-none
returns-in-Err-TooLarge-clause-none c =
    large_refusal (tree_view c.args.checked.now.0) c.requires (c.in-Err-TooLarge.ensures.large c.in-Err-TooLarge.field-0-is)
