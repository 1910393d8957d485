use Rattle.pfc_tree.specs.views.Exprs.{expr_view}
use Rattle.pfc_semantics.specs.Remainders.{apply}
use Rattle.pfc_semantics.specs.Rewriting.{from_value}
use Rattle.pfc_facts.specs.Views.{function_view}
use Rattle.pfc_pending.specs.Waiting.{awaits_of}
use Rattle.pfc_expression_steps.proofs.Rules.{first_evaluated}
use Rattle.pfc_expression_steps.proofs.factors.evaluated.Goals as goal

pub returns-in-len1-up : goal.returns-in-len1-up
returns-in-len1-up c = λ s here w.
    let u = apply (function_view c.args.f) c.args.t (awaits_of w) in
    first_evaluated here c.args.args.now c.first-item.result u (from_value here u)
    (expr_view c.expression.result.now) c.in-len1-up.len_at_least c.first-item.is c.expression.ensures
