use Rattle.std.proofs.Common.{◌∙◌}
use Rattle.pfc_semantics.specs.Alternatives.{context}
use Rattle.pfc_semantics.specs.Rewriting.{from_location}
use Rattle.pfc_phrases.specs.Views.{env_view}
use Rattle.pfc_pending.specs.Waiting.{goal_over}
use Rattle.pfc_sites.proofs.References.{first_lent}
use Rattle.pfc_sites.proofs.arguments.reference.Goals as goal

pub returns-in-len1-up : goal.returns-in-len1-up
returns-in-len1-up c = λ t line w.
    let here = context (env_view c.args.site.env) line in
    let over = goal_over w c.args.goal in
    c.lent.ensures t line w
    ∙ first_lent here c.args.args.now c.first-item.result over (from_location here over) c.in-len1-up.len_at_least c.first-item.is
