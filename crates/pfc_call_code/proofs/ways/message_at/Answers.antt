use Rattle.std.proofs.Common.{ap, ◌∙◌}
use Rattle.pfc_tree.specs.views.Exprs.{expr_view}
use Rattle.pfc_types.specs.rules.Expressions.{Env}
use Rattle.pfc_semantics.specs.Alternatives.{context, message_of}
use Rattle.pfc_addresses.specs.Sites.{site_view}
use Rattle.pfc_call_code.proofs.ways.message_at.Goals as goal

pub returns : goal.returns
returns c =
    let line = (site_view c.args.site).line in
    c.message_of.ensures line ∙ ap (λ (env : Env). message_of (context env line) (expr_view c.args.e.now)) c.env.ensures.site
