use Rattle.std.proofs.Common.{◌+◌, ◌-◌, ◌≡◌, length, arith, refl}
use Rattle.std.specs.Vec.{vec_len}
use Rattle.pfc_requeueing.proofs.Requeued.{replaced_last}
use Rattle.pfc_requeueing.proofs.requeueing.replace_last.Goals as goal

pub returns-in-Some : goal.returns-in-Some
returns-in-Some c = λ t.
    let v = c.args.activations.now in
    let many : (vec_len v - 1) + 1 ≡ length v.items = omega (arith, c.in-Some.ensures.variant.0 refl, v.ok.0) in
    replaced_last t v.items c.in-Some.last.now (vec_len v - 1) c.args.other.number c.args.other.scope c.args.other.cells many c.in-Some.ensures.value
