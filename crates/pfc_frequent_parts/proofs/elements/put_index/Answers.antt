use Rattle.std.proofs.Common.{ap}
use Rattle.pfc_tree.specs.views.Exprs.{expr_view}
use Rattle.pfc_semantics.specs.Expressions.{from_expr}
use Rattle.pfc_semantics.specs.Rewriting.{from_value}
use Rattle.pfc_pending.specs.Waiting.{Waiting, awaits_of}
use Rattle.pfc_frequent_parts.proofs.elements.put_index.Goals as goal

pub returns : goal.returns
returns c = λ t here.
    ap (λ (w : Waiting). from_expr here (expr_view c.args.element.index.now) (awaits_of w) (from_value here (awaits_of w))) (c.put_array.ensures t)
