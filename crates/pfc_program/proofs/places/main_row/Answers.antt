use Rattle.std.proofs.Common.{◌≡◌, ◌∙◌, ◌+◌, ◌∷◌, [], ◌++◌, length, get_or, drop, sym, ap, arith}
use Rattle.std.proofs.lemmas.List.{append_assoc}
use Rattle.pfc_tree.specs.Symbols.{Text}
use Rattle.pfc_types.specs.Scopes.{scope_at}
use Rattle.pfc_types.specs.declared.scope.Meaning.{Meaning}
use Rattle.pfc_semantics.specs.Layouts.{laid_as}
use Rattle.pfc_program.specs.Places.{main_places}
use Rattle.pfc_program.proofs.Rows.{main_places_next}
use Rattle.pfc_program.proofs.places.main_row.Goals as goal

pub loop-k-preserved : goal.loop-k-preserved
loop-k-preserved c =
    let b = c.args.scopes.now in
    let names = scope_at b.scopes 0 in
    let k = c.loop-k.k in
    let n = c.loop-k.n in
    let m = c.meaning_at.result in
    let before = c.loop-k.row.items in
    let rest = main_places b c.in_ok-n.n (drop (k + 1) names) in
    let is : (d : Text × Meaning) → m ≡ (get_or names k d).1 = λ d. c.meaning_at.ensures d ∙ ap (λ l. (get_or l k d).1) c.at.ensures in
    let next : n + length (laid_as b m) ≡ c.in_ok-n.n = ap (λ j. n + j) (sym c.in_ok-main_size.ensures) ∙ sym c.in_ok-n.ensures in
    let step = main_places_next b n names k m is (omega arith) ∙ ap (λ j. n ∷ main_places b j (drop (k + 1) names)) next in
    ap (λ l. l ++ rest) c.in_ok-push.ensures.items ∙ append_assoc before (n ∷ []) rest ∙ ap (λ l. before ++ l) (sym step) ∙ c.loop-k.invariant
