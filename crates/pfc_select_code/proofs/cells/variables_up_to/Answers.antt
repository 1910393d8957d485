use Rattle.std.proofs.Common.{arith}
use Rattle.pfc_select_code.proofs.Sums.{accepts_more}
use Rattle.pfc_select_code.proofs.cells.variables_up_to.Goals as goal

pub loop-i-preserved : goal.loop-i-preserved
loop-i-preserved c =
    let more = accepts_more c.args.scopes.now.scopes c.loop-i.i c.args.to (omega arith) in
    omega (arith, more, c.loop-i.invariant, c.in_ok-count-2.ensures.value, c.in_ok-variables_in.ensures.value)
