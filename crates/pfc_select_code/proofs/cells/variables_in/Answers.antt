use Rattle.std.proofs.Common.{◌≡◌, ◌∙◌, ◌+◌, length, get_or, drop, ap, arith}
use Rattle.std.proofs.lemmas.List.{length-append}
use Rattle.pfc_tree.specs.Symbols.{Text}
use Rattle.pfc_types.specs.Scopes.{scope_at}
use Rattle.pfc_types.specs.declared.scope.Meaning.{Meaning}
use Rattle.pfc_semantics.specs.Layouts.{laid_names}
use Rattle.pfc_program.specs.Laid.{one_laid}
use Rattle.pfc_program.proofs.Laid.{laid_at}
use Rattle.pfc_select_code.proofs.cells.variables_in.Goals as goal

pub loop-k-preserved : goal.loop-k-preserved
loop-k-preserved c =
    let names = scope_at c.args.scopes.now.scopes c.args.i in
    let k = c.loop-k.k in
    let m = c.meaning_at.result in
    let is : (d : Text × Meaning) → m ≡ (get_or names k d).1 = λ d. c.meaning_at.ensures d ∙ ap (λ l. (get_or l k d).1) c.at.ensures in
    let more = ap length (laid_at names k m is (omega arith)) ∙ length-append (one_laid m) (laid_names (drop (k + 1) names)) in
    omega (arith, more, c.loop-k.invariant, c.in_ok-n.ensures.value, c.size.ensures)
