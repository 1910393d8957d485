use Rattle.std.proofs.Common.{length, ap, ◌∙◌}
use Rattle.pfc_hb.specs.Parts.{front, number_of}
use Rattle.pfc_hb.proofs.PartLaws.{front-all}
use Rattle.pfc_hb.proofs.parts.number_of.Goals as goal

pub returns : goal.returns
returns c =
    let parts = c.args.parts.now.keys in
    let spot = c.args.spot.now in
    c.number_at.ensures ∙ ap (λ path. number_of parts (front (length path) spot)) c.steps.ensures ∙ ap (number_of parts) (front-all spot)
