use Rattle.std.proofs.Common.{◌≡◌, ◌∙◌, ◌+◌, ◌∷◌, [], ◌++◌, length, get_or, drop, sym, ap, arith}
use Rattle.std.proofs.lemmas.List.{append_assoc}
use Rattle.pfc_tree.specs.Symbols.{Text}
use Rattle.pfc_types.specs.Scopes.{scope_at}
use Rattle.pfc_types.specs.declared.scope.Meaning.{Meaning}
use Rattle.pfc_semantics.specs.Layouts.{sub_with, behind_result}
use Rattle.pfc_program.specs.Laid.{one_laid}
use Rattle.pfc_program.specs.Places.{block_places}
use Rattle.pfc_program.proofs.Rows.{block_places_next}
use Rattle.pfc_program.proofs.places.block_row.Goals as goal

pub loop-k-preserved : goal.loop-k-preserved
loop-k-preserved c =
    let b = c.args.lookups.now.scopes.now in
    let sub = sub_with b.subs c.args.i in
    let names = scope_at b.scopes c.args.i in
    let k = c.loop-k.k in
    let n = c.loop-k.n in
    let m = c.meaning_at.result in
    let place = c.in_ok-added.field-0 in
    let before = c.loop-k.row.items in
    let rest = block_places sub c.in_ok-n.n (k + 1) (drop (k + 1) names) in
    let is : (d : Text × Meaning) → m ≡ (get_or names k d).1 = λ d. c.meaning_at.ensures d ∙ ap (λ l. (get_or l k d).1) c.at.ensures in
    let here : n + behind_result sub k ≡ place =
    sym (c.in_ok-added.ensures ∙ ap (λ j. n + j) (c.behind_result.ensures ∙ ap (λ o. behind_result o k) c.sub_with-sub.ensures)) in
    let next : n + length (one_laid m) ≡ c.in_ok-n.n = ap (λ j. n + j) (sym c.size.ensures) ∙ sym c.in_ok-n.ensures in
    let step =
    block_places_next sub n k names k m is (omega arith)
    ∙ ap (λ j. j ∷ block_places sub (n + length (one_laid m)) (k + 1) (drop (k + 1) names)) here
    ∙ ap (λ j. place ∷ block_places sub j (k + 1) (drop (k + 1) names)) next in
    ap (λ l. l ++ rest) c.in_ok-push.ensures.items ∙ append_assoc before (place ∷ []) rest ∙ ap (λ l. before ++ l) (sym step) ∙ c.loop-k.invariant
