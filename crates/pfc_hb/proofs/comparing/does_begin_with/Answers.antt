use Rattle.std.proofs.Common.{arith, ap, of_z, w32}
use Rattle.pfc_hb.proofs.PathLaws.{begins-not, begins-with}
use Rattle.pfc_hb.proofs.comparing.does_begin_with.Goals as goal

pub returns-then-path-place : goal.returns-then-path-place
returns-then-path-place c =
    begins-not c.args.path.now c.args.front.now c.loop-place.place (omega arith) (λ same. c.if-path-place.true (ap (of_z w32) same))

pub returns : goal.returns
returns c = begins-with c.args.path.now c.args.front.now c.requires (λ k lt. c.loop-place.invariant k (omega arith))
