use Rattle.std.proofs.Common.{◌≡◌, ◌∙◌, ◌++◌, min, length, take, sym, ap, arith}
use Rattle.std.proofs.lemmas.List.{append_assoc, take_min}
use Rattle.pfc_semantics.specs.Layouts.{laid_names}
use Rattle.pfc_program.specs.Laid.{one_laid}
use Rattle.pfc_program.proofs.Laid.{laid_taken_at}
use Rattle.pfc_program.proofs.layouts.lay_first.Goals as goal

pub loop-place-preserved : goal.loop-place-preserved
loop-place-preserved c =
    let names = c.at-scope.result.now in
    let place = c.loop-place.place in
    let before = c.args.layout.now.items in
    let m = c.meaning_at.result in
    c.in_ok-lay.ensures
    ∙ ap (λ l. l ++ one_laid m) c.loop-place.invariant
    ∙ append_assoc before (laid_names (take place names)) (one_laid m)
    ∙ ap (λ l. before ++ l) (sym (laid_taken_at names place m c.meaning_at.ensures (omega arith)))

pub returns : goal.returns
returns c =
    let names = c.at-scope.result.now in
    let before = c.args.layout.now.items in
    let all : c.loop-place.place ≡ min c.args.k (length names) = omega arith in
    c.loop-place.invariant
    ∙ ap (λ n. before ++ laid_names (take n names)) all
    ∙ ap (λ l. before ++ laid_names l) (take_min c.args.k names)
    ∙ ap (λ l. before ++ laid_names (take c.args.k l)) c.at-scope.ensures
