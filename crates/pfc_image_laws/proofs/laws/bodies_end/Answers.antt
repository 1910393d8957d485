use Rattle.std.proofs.Common.{◌+◌, ◌-◌, length}
use Rattle.pfc_translation.specs.Images.{body_code, instructions}
use Rattle.pfc_image_laws.specs.Instructions.{Leads, NamesBlock, NamesText}
use Rattle.pfc_image_laws.proofs.Holds.{each_then}
use Rattle.pfc_image_laws.proofs.Layouts.{Kept, body, body_kept}
use Rattle.pfc_image_laws.proofs.laws.bodies_end.Goals as goal

pub returns-clause-sizes : goal.returns-clause-sizes
returns-clause-sizes c = λ g b at strings. (body g b at strings).size

pub returns-clause-jumps : goal.returns-clause-jumps
returns-clause-jumps c = λ g b at strings.
    let a = body_code g b in
    each_then (Kept g at (at + a.size - 1) strings (strings + length a.texts)) (Leads at (at + a.size - 1)) at (instructions (a.put at strings))
    (λ j i f. f.leads)
    (body_kept g b at strings)

pub returns-clause-ends : goal.returns-clause-ends
returns-clause-ends c = λ g b at strings. (body g b at strings).ended

pub returns-clause-last : goal.returns-clause-last
returns-clause-last c = λ g b at strings. (body g b at strings).last

pub returns-clause-blocks : goal.returns-clause-blocks
returns-clause-blocks c = λ g b at strings.
    let a = body_code g b in
    each_then (Kept g at (at + a.size - 1) strings (strings + length a.texts)) (NamesBlock (length g.blocks + 1)) at (instructions (a.put at strings))
    (λ j i f. f.block)
    (body_kept g b at strings)

pub returns-clause-texts : goal.returns-clause-texts
returns-clause-texts c = λ g b at strings.
    let a = body_code g b in
    each_then (Kept g at (at + a.size - 1) strings (strings + length a.texts)) (NamesText strings (strings + length a.texts)) at
    (instructions (a.put at strings)) (λ j i f. f.text)
    (body_kept g b at strings)

pub returns-clause-levels : goal.returns-clause-levels
returns-clause-levels c = λ g b at strings. (body g b at strings).links
