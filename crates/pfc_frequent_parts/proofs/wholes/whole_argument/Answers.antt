use Rattle.std.proofs.Common.{◌∙◌, sym}
use Rattle.std.proofs.lemmas.Option.{IfSome_then}
use Rattle.pfc_tree.specs.views.Exprs.{actual_view, desig_view, expr_view}
use Rattle.pfc_semantics.specs.Alternatives.{context}
use Rattle.pfc_phrases.specs.Views.{env_view}
use Rattle.pfc_sites.proofs.References.{lent_found}
use Rattle.pfc_frequent_parts.proofs.wholes.whole_argument.Goals as goal

pub returns : goal.returns
returns c =
    IfSome_then c.whole.result c.whole.ensures
    (λ s holds line to arrive.
    let here = context (env_view c.args.site.env) line in
    sym (lent_found here (actual_view c.args.a.now) to arrive (expr_view c.expression.result.now) (desig_view c.in_ok-as_desig.field-0.now)
    c.expression.ensures c.in_ok-as_desig.ensures)
    ∙ holds line to arrive)
