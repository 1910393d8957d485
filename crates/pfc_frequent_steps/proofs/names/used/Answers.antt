use Rattle.std.proofs.Common.{◌∙◌}
use Rattle.std.proofs.lemmas.Option.{IfSome_then}
use Rattle.pfc_tree.specs.views.Exprs.{actuals_view}
use Rattle.pfc_semantics.specs.Alternatives.{context}
use Rattle.pfc_phrases.specs.Views.{env_view}
use Rattle.pfc_pending.specs.Waiting.{awaits_of}
use Rattle.pfc_frequent_steps.proofs.Named.{named_alone}
use Rattle.pfc_frequent_steps.proofs.names.used.Goals as goal

pub returns-in-empty : goal.returns-in-empty
returns-in-empty c =
    IfSome_then c.named.result c.named.ensures
    (λ n holds t line w.
    let args = actuals_view c.args.args.now.items in
    holds t line w args
    ∙ named_alone (context (env_view c.args.site.env) line) c.args.d.now c.as_slice.result.now args c.args._place (awaits_of w)
    c.as_slice.ensures.value c.in-empty.len_below)
