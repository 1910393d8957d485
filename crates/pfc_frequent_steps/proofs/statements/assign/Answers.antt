use Rattle.pfc_tree.specs.views.Exprs.{expr_view}
use Rattle.pfc_semantics.specs.Alternatives.{context}
use Rattle.pfc_phrases.specs.Views.{env_view}
use Rattle.pfc_store.specs.Views.{typed_spot_view}
use Rattle.pfc_pending.specs.Waiting.{remainder_of}
use Rattle.pfc_frequent_steps.proofs.Assigned.{assigned}
use Rattle.pfc_frequent_steps.proofs.statements.assign.Goals as goal

pub returns-in-empty : goal.returns-in-empty
returns-in-empty c = λ t line w.
    assigned (context (env_view c.args.site.env) line) c.args.d.now c.as_slice.result.now (expr_view c.args.e.now) (remainder_of w)
    (typed_spot_view c.spot.result) c.as_slice.ensures.value c.in-empty.len_below c.spot.ensures
