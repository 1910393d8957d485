use Rattle.std.proofs.Common.{◌≡◌, ◌∙◌, get_or, ap, arith}
use Rattle.pfc_tree.specs.Symbols.{Text}
use Rattle.pfc_types.specs.Scopes.{scope_at}
use Rattle.pfc_types.specs.declared.scope.Meaning.{Meaning}
use Rattle.pfc_select_code.proofs.Sums.{scope_cells_at}
use Rattle.pfc_select_code.proofs.cells.scope_cells.Goals as goal

pub loop-k-preserved : goal.loop-k-preserved
loop-k-preserved c =
    let names = scope_at c.args.scopes.now.scopes c.args.i in
    let k = c.loop-k.k in
    let m = c.meaning_at.result in
    let is : (d : Text × Meaning) → m ≡ (get_or names k d).1 = λ d. c.meaning_at.ensures d ∙ ap (λ l. (get_or l k d).1) c.at.ensures in
    let more = scope_cells_at c.args.types.now names k m is (omega arith) in
    omega (arith, more, c.loop-k.invariant, c.in_ok-cells.ensures.value, c.name_cells.ensures)
