use Rattle.std.proofs.Common.{◌≡◌, ◌<◌, [], length, ap, ◌∙◌, arith, get_or}
use Rattle.pfc_types.specs.Types.{cells_in, integer}
use Rattle.pfc_types.specs.declared.types.TypeId.{TypeId}
use Rattle.pfc_expression_code.proofs.Fields.{fields_before-next}
use Rattle.pfc_expression_code.proofs.parts.fields_before.Goals as goal

pub loop-i-preserved : goal.loop-i-preserved
loop-i-preserved c =
    let fields = c.args.fields.now in
    let forms = c.args.types.now in
    let inside : c.loop-i.i < length fields = omega arith in
    let here : c.held-sum.result.cells ≡ cells_in forms (get_or fields c.loop-i.i ([], integer)).1 =
    ap (λ h. h.cells) c.held-sum.ensures.value ∙ ap (λ (t : TypeId). cells_in forms t) (c.type_at.ensures ([], integer)) in
    record {
      value = omega (arith, here, fields_before-next forms fields c.loop-i.i ([], integer) inside);
      bound = omega (arith, c.held-sum.ensures.small.cells);
    }
