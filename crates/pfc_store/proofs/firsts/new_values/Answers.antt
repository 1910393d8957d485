use Rattle.std.proofs.Common.{◌∙◌, ◌≤◌, ◌++◌, ◌∷◌, [], pos, length, ap, ap₂, arith}
use Rattle.std.proofs.lemmas.List.{map-append}
use Rattle.pfc_types.specs.declared.scope.Meaning.{Meaning}
use Rattle.pfc_types.specs.declared.scope.Meaning.TheVariants.{Constant}
use Rattle.pfc_semantics.specs.Objects.{first_laid, all_first}
use Rattle.pfc_store.specs.Views.{value_view, values_view}
use Rattle.pfc_store.proofs.Beginning.{values_next}
use Rattle.pfc_store.proofs.firsts.new_values.Goals as goal

pub loop-i-preserved : goal.loop-i-preserved
loop-i-preserved c =
    let from : length c.args.args.items ≤ c.loop-i.i = omega (arith, c.loop-i.auto.i, c.len-i.ensures, c.args.args.ok.0) in
    let d : Meaning = Constant (record { place = 0 }) (pos 0) in
    ap values_view c.in_ok-push.ensures.items
    ∙ map-append value_view c.loop-i.values.items (c.in_ok-first_laid.field-0 ∷ [])
    ∙ ap₂ (λ xs x. xs ++ x ∷ []) c.loop-i.invariant c.in_ok-first_laid.ensures
    ∙ values_next (values_view c.args.args.items) (first_laid (all_first c.args.types.now)) c.args.layout.now
    (length c.args.args.items) c.loop-i.i d from c.loop-i-test.true
