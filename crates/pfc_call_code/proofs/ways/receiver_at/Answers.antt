use Rattle.std.proofs.Common.{ap, ◌∙◌}
use Rattle.pfc_tree.specs.views.Exprs.{desig_view}
use Rattle.pfc_types.specs.rules.Expressions.{Env}
use Rattle.pfc_semantics.specs.Alternatives.{context, receiver_of}
use Rattle.pfc_addresses.specs.Sites.{site_view}
use Rattle.pfc_call_code.proofs.ways.receiver_at.Goals as goal

pub returns : goal.returns
returns c =
    let line = (site_view c.args.site).line in
    c.receiver_of.ensures line ∙ ap (λ (env : Env). receiver_of (context env line) (desig_view c.args.v.now)) c.env.ensures.site
