use Rattle.std.proofs.Common.{◌≡◌, ◌∙◌, [], Some, IfOk, sym, ap, subst}
use Rattle.std.specs.Prelude.{position}
use Rattle.pfc_tree.specs.Symbols.{Text}
use Rattle.pfc_types.specs.Scopes.{Names}
use Rattle.pfc_types.specs.declared.scope.Meaning.{Meaning}
use Rattle.pfc_types.specs.declared.scope.Meaning.TheVariants.{Faulty}
use Rattle.pfc_program.specs.Views.{tables_view}
use Rattle.pfc_translation.specs.Images as images
use Rattle.pfc_labels.proofs.Found.{found}
use Rattle.pfc_blocks.proofs.LabelPlaces.{label_at}
use Rattle.pfc_blocks.proofs.labels.label.Goals as goal

pub returns-then-place-k : goal.returns-then-place-k
returns-then-place-k c =
    let s = tables_view c.args.tables in
    let d : Text × Meaning = ([], Faulty) in
    let names : Names = c.at-names.result.now in
    let first : images.label_in s c.args.i names ≡ c.args.name.now =
    label_at s c.args.i d names c.in-Some.k (sym c.label_place.ensures ∙ c.in-Some.is)
    ∙ found c.args.name.now names c.in-Some-position.place c.in-Some.k d (sym c.position.ensures ∙ c.in-Some-position.is) c.if-place-k.true
    in
    subst (λ (x : Text). IfOk c.copy.result (λ y. y ≡ x)) (sym (ap (images.label_in s c.args.i) (sym c.at-names.ensures) ∙ first)) c.copy.ensures
