use Rattle.std.proofs.Common.{◌≡◌, ◌+◌, ◌<◌, [], ◌∙◌, length, ap, arith, get_or, drop}
use Rattle.std.proofs.lemmas.List.Sums.{sum_by-drop_more}
use Rattle.pfc_tree.specs.Symbols.{Text}
use Rattle.pfc_types.specs.declared.scope.Meaning.{Meaning}
use Rattle.pfc_types.specs.declared.scope.Meaning.TheVariants.{Faulty}
use Rattle.pfc_types.specs.rules.Declarations.{scope_cells, name_cells}
use Rattle.pfc_check.proofs.state.State.scope_cells.Goals as goal

pub loop-k-preserved : goal.loop-k-preserved
loop-k-preserved c =
    let names = c.at-scope.result.now in
    let types = c.args.self.now.types in
    let k = c.loop-k.k in
    let inside : k < length names = omega arith in
    let split : scope_cells types (drop k names) ≡ name_cells types (get_or names k ([], Faulty)).1 + scope_cells types (drop (k + 1) names) =
    sum_by-drop_more (λ (x : Text × Meaning). name_cells types x.1) names k ([], Faulty) inside in
    let here : c.name_cells-cells.result ≡ name_cells types (get_or names k ([], Faulty)).1 =
    c.name_cells-cells.ensures.value ∙ ap (λ (m : Meaning). name_cells types m) (c.meaning_at.ensures ([], Faulty)) in
    record {
      value = omega (arith, split, here, c.loop-k.invariant.value);
      bound = omega (arith, c.name_cells-cells.ensures.bound, c.loop-k.invariant.bound);
    }
