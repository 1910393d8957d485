use Rattle.std.proofs.Common.{◌≡◌, ◌≢◌, ◌+◌, List, length, take, drop, sym, ap, ◌∙◌, arith}
use Rattle.std.specs.Prelude.{slice_get}
use Rattle.pfc_machines.specs.declared.alternatives.Alternative.{Alternative}
use Rattle.pfc_machines.specs.Offers.{arm_of, listed_arm, arms_of, kept_under, communications}
use Rattle.pfc_machines.proofs.Walking.{next_of, arms_step, stands_here, stands_before}
use Rattle.pfc_machines.proofs.communications.Communications.communication.Goals as goal
use Rattle.pfc_machines.proofs.communications.Communications.communication.Goals.{else-arms-eq1-via-then-arms-eq1+else-left-place}
use Rattle.pfc_machines.proofs.communications.Communications.communication.Goals.{else-arms-eq1-via-else-arms-eq1}

pub overflow_sub-left : goal.overflow_sub-left
overflow_sub-left c =
    let last : List Alternative = take c.args.n c.args.self.now.alternatives in
    let a : Alternative = c.alternative-alternative.result in
    let step : length (arms_of (drop c.loop-j.j last)) ≡ length (arms_of (drop (c.loop-j.j + 1) last)) + length (listed_arm (arm_of a.offer)) =
    ap (λ made. length (arms_of made))
    (next_of c.args.self.now.alternatives c.args.n c.loop-j.j a c.requires c.loop-j-test.true c.alternative-alternative.ensures)
    ∙ arms_step a (drop (c.loop-j.j + 1) last) in
    omega (arith, c.loop-j.invariant.left, step, c.arms-arms.ensures)

pub returns-then-left-place : goal.returns-then-left-place
returns-then-left-place c =
    let last : List Alternative = take c.args.n c.args.self.now.alternatives in
    let a : Alternative = c.alternative-alternative.result in
    let earlier : List Alternative = drop (c.loop-j.j + 1) last in
    let next = next_of c.args.self.now.alternatives c.args.n c.loop-j.j a c.requires c.loop-j-test.true c.alternative-alternative.ensures in
    let step : length (arms_of (drop c.loop-j.j last)) ≡ length (arms_of earlier) + length (listed_arm (arm_of a.offer)) =
    ap (λ made. length (arms_of made)) next ∙ arms_step a earlier in
    let place : c.args.place ≡ length (arms_of earlier) = omega (arith, c.loop-j.invariant.left, step, c.arms-arms.ensures, c.if-left-place.true) in
    sym (c.loop-j.invariant.same ∙ ap (λ made. slice_get (communications (kept_under c.loop-j.above made)) c.args.place) next
    ∙ stands_here c.loop-j.above a earlier c.args.place (sym c.arms-arms.ensures ∙ c.if-arms-eq1.true) place)

pub loop-j-preserved : goal.loop-j-preserved
loop-j-preserved c =
    let last : List Alternative = take c.args.n c.args.self.now.alternatives in
    let a : Alternative = c.alternative-alternative.result in
    let earlier : List Alternative = drop (c.loop-j.j + 1) last in
    let next = next_of c.args.self.now.alternatives c.args.n c.loop-j.j a c.requires c.loop-j-test.true c.alternative-alternative.ensures in
    let step : length (arms_of (drop c.loop-j.j last)) ≡ length (arms_of earlier) + length (listed_arm (arm_of a.offer)) =
    ap (λ made. length (arms_of made)) next ∙ arms_step a earlier in
    let left : c.loop-j.left ≡ length (arms_of earlier) + c.arms-arms.result = omega (arith, c.loop-j.invariant.left, step, c.arms-arms.ensures) in
    let other : length (listed_arm (arm_of a.offer)) ≡ 1 → c.args.place ≢ length (arms_of earlier) =
    λ one here. elim c.else-arms-eq1.branch [
      | else-arms-eq1-via-then-arms-eq1+else-left-place w ↦ w.if-left-place.false (omega (arith, left, here))
      | else-arms-eq1-via-else-arms-eq1 w ↦ w.if-arms-eq1.false (c.arms-arms.ensures ∙ one)
    ] in
    let least = c.loop-j.invariant.few in
    let size = c.words.type_inv in
    record {
      few = omega (arith, least, size);
      left = omega (arith, left);
      same = c.loop-j.invariant.same ∙ ap (λ made. slice_get (communications (kept_under c.loop-j.above made)) c.args.place) next
          ∙ stands_before c.loop-j.above a earlier c.args.place other
          ∙ ap (λ n. slice_get (communications (kept_under (c.loop-j.above + n) earlier)) c.args.place) (sym c.words.ensures);
    }
