use Rattle.std.proofs.Common.{◌≡◌, ◌∙◌, sym, ap, arith}
use Rattle.pfc_types.specs.Blocks.{Blocks}
use Rattle.pfc_semantics.specs.Layouts.{sub_with}
use Rattle.pfc_translation.specs.Operands.{result_of}
use Rattle.pfc_blocks.proofs.CalledBlocks.{are_callees}
use Rattle.pfc_blocks.proofs.parameters.Called.new.Goals as goal

pub invariant_of-result : goal.invariant_of-result
invariant_of-result c =
    let no_params : c.in_ok-params.field-0 ≡ 0 = omega (arith, c.if-branch-ne0.false) in
    let no_result : c.result_cells.result ≡ 0 = omega (arith, c.if-result_cells-ne0.false) in
    let main_result =
    sym (ap (λ (b : Blocks). result_of (sub_with b.subs c.args.program.now.main.scope)) c.in_ok-lookups.ensures)
    ∙ sym c.result_cells.ensures
    ∙ no_result
    in
    record {
      looked_up = c.in_ok-lookups.ensures;
      fits =
          are_callees c.args.program.now c.args.tree.now c.in_ok-params-2.params.items c.in_ok-results.results.items c.requires c.in_ok-params-2.ensures
          c.in_ok-results.ensures (sym c.in_ok-params.ensures ∙ no_params) main_result;
    }
