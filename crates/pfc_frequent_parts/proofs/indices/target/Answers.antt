use Rattle.pfc_tree.specs.views.Exprs.{expr_view}
use Rattle.pfc_semantics.specs.Alternatives.{context}
use Rattle.pfc_phrases.specs.Views.{env_view}
use Rattle.pfc_store.specs.Views.{typed_spot_view}
use Rattle.pfc_frequent_parts.proofs.Alone.{target_led}
use Rattle.pfc_frequent_parts.proofs.indices.target.Goals as goal

pub returns : goal.returns
returns c = λ line to.
    target_led (context (env_view c.args.site.env) line) c.args.d.now c.as_slice.result.now (expr_view c.in_ok-index.index.now)
    (typed_spot_view c.spot.result) to c.as_slice.ensures.value c.in_ok-index.ensures c.spot.ensures
