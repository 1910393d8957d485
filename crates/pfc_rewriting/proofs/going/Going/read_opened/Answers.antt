use Rattle.std.proofs.Common.{◌∙◌}
use Rattle.pfc_phrases.specs.Views.{env_view}
use Rattle.pfc_semantics.specs.Alternatives.{context}
use Rattle.pfc_pending.specs.Waiting.{waiting}
use Rattle.pfc_rewriting.proofs.going.Going.read_opened.Goals as goal

pub returns-in-Err : goal.returns-in-Err
returns-in-Err c = λ t.
    c.put.ensures t (env_view c.args.site.env)
    ∙ c.in-Err.ensures.err t (context (env_view c.args.site.env) c.args.self.now.line) (waiting t c.args.self.now.pending.items)
