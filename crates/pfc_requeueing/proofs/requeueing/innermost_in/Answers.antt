use Rattle.std.proofs.Common.{◌-◌, length, arith}
use Rattle.pfc_requeueing.proofs.Requeued.{innermost_last}
use Rattle.pfc_requeueing.proofs.requeueing.innermost_in.Goals as goal

pub returns-in-len1-up : goal.returns-in-len1-up
returns-in-len1-up c = λ t.
    innermost_last t c.args.activations.now c.last-item.result (length c.args.activations.now - 1) (omega (arith, c.in-len1-up.len_at_least)) c.last-item.is
