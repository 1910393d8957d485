use Rattle.std.proofs.Common.{ap, ◌∙◌}
use Rattle.pfc_semantics.specs.Expressions.{from_multipliers}
use Rattle.pfc_semantics.specs.Rewriting.{from_value}
use Rattle.pfc_store.specs.Views.{value_view}
use Rattle.pfc_pending.specs.Waiting.{awaits_of}
use Rattle.pfc_expression_steps.proofs.Firsts.{multipliers_first}
use Rattle.pfc_expression_steps.proofs.expressions.multipliers.Goals as goal

pub returns-in-len1-up : goal.returns-in-len1-up
returns-in-len1-up c = λ t here w.
    let u = awaits_of w in
    c.multiply.ensures t here w
    ∙ ap (λ us. from_multipliers here (value_view c.args.product) us u (from_value here u))
    (multipliers_first c.args.rest.now c.first-item.result c.in-len1-up.len_at_least c.first-item.is)
