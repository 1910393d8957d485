use Rattle.std.proofs.Common.{◌≡◌, ◌+◌, List, length, take, drop, sym, ap, ◌∙◌, arith}
use Rattle.pfc_machines.specs.declared.alternatives.Alternative.{Alternative}
use Rattle.pfc_machines.specs.Offers.{arm_of, arms_of}
use Rattle.pfc_machines.proofs.Ends.{one_arm}
use Rattle.pfc_machines.proofs.Walking.{next_of, arms_step}
use Rattle.pfc_machines.proofs.communications.Communications.arms_in.Goals as goal

pub loop-j-preserved : goal.loop-j-preserved
loop-j-preserved c =
    let last : List Alternative = take c.args.n c.args.self.now.alternatives in
    let a : Alternative = c.alternative.result in
    let step : length (arms_of (drop c.loop-j.j last)) ≡ length (arms_of (drop (c.loop-j.j + 1) last)) + c.arms-count.result =
    ap (λ made. length (arms_of made)) (next_of c.args.self.now.alternatives c.args.n c.loop-j.j a c.requires c.loop-j-test.true c.alternative.ensures)
    ∙ arms_step a (drop (c.loop-j.j + 1) last) ∙ ap (λ n. length (arms_of (drop (c.loop-j.j + 1) last)) + n) (sym c.arms-count.ensures) in
    let one = one_arm (arm_of a.offer) in
    record {
      few = omega (arith, c.loop-j.invariant.few, one, c.arms-count.ensures);
      all = omega (arith, c.loop-j.invariant.all, step);
    }
