use Rattle.std.proofs.Common.{◌∙◌, ◌<◌, sym, ap, arith, subst}
use Rattle.pfc_types.specs.Types.{all_held, held_with, held_before}
use Rattle.pfc_types.proofs.Adding.{fields_held_next}
use Rattle.pfc_types.proofs.table.TypeTable.held_by_fields.Goals as goal

pub loop-i-preserved : goal.loop-i-preserved
loop-i-preserved c =
    let here = subst (λ n. c.loop-i.i < n) c.len-i-end.ensures c.loop-i-test.true in
    record {
      value =
          c.both-sum.ensures.value
          ∙ ap (λ h. held_with c.loop-i.sum h) c.held.ensures.value
          ∙ ap (λ sum. held_with sum (held_before (all_held c.args.self.now) c.type_at.result)) c.loop-i.invariant.value
          ∙ sym (fields_held_next (all_held c.args.self.now) c.args.fields.now c.loop-i.i c.type_at.result here c.type_at.ensures);
      cells = omega (arith, c.loop-i.invariant.cells, c.held.ensures.small.cells, ap (λ h. h.cells) c.both-sum.ensures.value);
      processes = c.both-sum.ensures.processes;
    }
