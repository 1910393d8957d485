use Rattle.std.proofs.Common.{◌≡◌, ◌∙◌, Some, ap}
use Rattle.pfc_tree.specs.declared.tree.Desig.{out-Desig}
use Rattle.pfc_tree.specs.views.Exprs.{actuals_view, expr_view}
use Rattle.pfc_types.specs.Scopes.{meaning_of}
use Rattle.pfc_types.specs.declared.scope.Meaning.TheVariants.{Variable}
use Rattle.pfc_types.specs.rules.Expressions.{find}
use Rattle.pfc_semantics.specs.Alternatives.{context}
use Rattle.pfc_semantics.specs.Expressions.{spot_of}
use Rattle.pfc_phrases.specs.Views.{env_view}
use Rattle.pfc_store.specs.Views.{typed_spot_view}
use Rattle.pfc_frequent_parts.proofs.Alone.{read_led}
use Rattle.pfc_frequent_parts.proofs.indices.read.Goals as goal

pub returns-in-Some-Variable : goal.returns-in-Some-Variable
returns-in-Some-Variable c = λ line u.
    let env = env_view c.args.site.env in
    let t = c.in-Some-Variable.field-0-0 in
    let r = c.in-Some-Variable.field-0-1 in
    let found = c.find_here-found.ensures.value in
    let told = c.meaning_of.ensures in
    let some = c.in-Some-Variable.is in
    let variable = c.in-Some-Variable.field-0-is in
    let means : meaning_of (find env (out-Desig c.args.d.now).name) ≡ Some (Variable t r) = cc in
    read_led (context env line) c.args.d.now c.as_slice.result.now (expr_view c.in_ok-index.index.now) (typed_spot_view c.array.result)
    (actuals_view c.args.args.now.items) c.args._place t r u c.as_slice.ensures.value c.in_ok-index.ensures
    (c.array.ensures ∙ ap (spot_of env) found) means
