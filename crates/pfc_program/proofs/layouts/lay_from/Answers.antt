use Rattle.std.proofs.Common.{◌∙◌, ◌+◌, ◌++◌, drop, sym, ap, arith}
use Rattle.std.proofs.lemmas.List.{append_assoc}
use Rattle.pfc_semantics.specs.Layouts.{laid_names}
use Rattle.pfc_program.specs.Laid.{one_laid}
use Rattle.pfc_program.proofs.Laid.{laid_at}
use Rattle.pfc_program.proofs.layouts.lay_from.Goals as goal

pub loop-place-preserved : goal.loop-place-preserved
loop-place-preserved c =
    let names = c.at-scope.result.now in
    let place = c.loop-place.place in
    let before = c.loop-place.layout.items in
    let m = c.meaning_at.result in
    ap (λ l. l ++ laid_names (drop (place + 1) names)) c.in_ok-lay.ensures
    ∙ append_assoc before (one_laid m) (laid_names (drop (place + 1) names))
    ∙ ap (λ l. before ++ l) (sym (laid_at names place m c.meaning_at.ensures (omega arith)))
    ∙ c.loop-place.invariant
