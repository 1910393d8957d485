use Rattle.std.proofs.Common.{◌≡◌, ◌∙◌, ◌+◌, ◌++◌, get_or, drop, sym, ap, arith}
use Rattle.std.proofs.lemmas.List.{append_assoc}
use Rattle.pfc_tree.specs.Symbols.{Text}
use Rattle.pfc_types.specs.Scopes.{scope_at}
use Rattle.pfc_types.specs.declared.scope.Meaning.{Meaning}
use Rattle.pfc_semantics.specs.Layouts as layouts
use Rattle.pfc_program.proofs.Laid.{main_at}
use Rattle.pfc_program.proofs.layouts.main_layout.Goals as goal

pub loop-place-preserved : goal.loop-place-preserved
loop-place-preserved c =
    let b = c.args.scopes.now in
    let names = scope_at b.scopes 0 in
    let k = c.loop-place.place in
    let m = c.meaning_at.result in
    let before = c.loop-place.layout.items in
    let rest = layouts.main_layout b (drop (k + 1) names) in
    let is : (d : Text × Meaning) → m ≡ (get_or names k d).1 = λ d. c.meaning_at.ensures d ∙ ap (λ l. (get_or l k d).1) c.at.ensures in
    ap (λ l. l ++ rest) c.in_ok-lay_main.ensures
    ∙ append_assoc before (layouts.laid_as b m) rest
    ∙ ap (λ l. before ++ l) (sym (main_at b names k m is (omega arith)))
    ∙ c.loop-place.invariant
