use Rattle.pfc_tree.specs.views.Parts.{tree_view}
use Rattle.pfc_walk.proofs.Readings.{text_read, text_refusal}
use Rattle.pfc_walk.proofs.reading.read.Goals as goal

pub returns-in-Ok-read_tokens-clause-sound : goal.returns-in-Ok-read_tokens-clause-sound
returns-in-Ok-read_tokens-clause-sound c =
    text_read c.args.text.now c.in-Ok.scanned.tokens.items c.deref.result.now c.in-Ok.scanned.end
    (tree_view c.in-Ok-read_tokens.checked.0) c.in-Ok.ensures.ok c.deref.ensures.value
    c.in-Ok-read_tokens.ensures.sound

pub returns-in-Err-clause-none : goal.returns-in-Err-clause-none
returns-in-Err-clause-none c =
    text_refusal c.args.text.now c.in-Ok.scanned.tokens.items c.deref.result.now c.in-Ok.scanned.end c.in-Err.why c.in-Ok.ensures.ok
    c.deref.ensures.value c.in-Err.ensures.none
