use Rattle.std.proofs.Common.{◌≡◌, [], arith, ap, ◌∙◌, sym}
use Rattle.std.proofs.lemmas.Bool.Decides.{nat_tests}
use Rattle.pfc_types.specs.declared.table.Held.{Held}
use Rattle.pfc_types.specs.declared.scope.Meaning.{Meaning}
use Rattle.pfc_translation.specs.Objects.{all_labelled, name_labelled}
use Rattle.pfc_labels.proofs.Labelled.{none_held}
use Rattle.pfc_labels.proofs.labels.holds_processes.Goals as goal

pub returns-in-Variable : goal.returns-in-Variable
returns-in-Variable c = λ x none.
    let no : c.held.result.processes ≡ 0 = grind (arith, nat_tests, none) in
    ap (λ (m : Meaning). name_labelled (all_labelled c.args.program.now.tables.types.now) x m) c.in-Variable.is
    ∙ none_held c.args.program.now.tables.types.now c.in-Variable.t x (ap (λ (h : Held). h.processes) (sym c.held.ensures.value) ∙ no)
