use Rattle.std.proofs.Common.{ap, ◌∙◌}
use Rattle.pfc_semantics.specs.Expressions.{from_summands}
use Rattle.pfc_semantics.specs.Rewriting.{from_value}
use Rattle.pfc_store.specs.Views.{value_view}
use Rattle.pfc_pending.specs.Waiting.{awaits_of}
use Rattle.pfc_expression_steps.proofs.Firsts.{summands_first}
use Rattle.pfc_expression_steps.proofs.expressions.summands.Goals as goal

pub returns-in-len1-up : goal.returns-in-len1-up
returns-in-len1-up c = λ t here w.
    let u = awaits_of w in
    c.add.ensures t here w
    ∙ ap (λ us. from_summands here (value_view c.args.sum) us u (from_value here u))
    (summands_first c.args.rest.now c.first-item.result c.in-len1-up.len_at_least c.first-item.is)
