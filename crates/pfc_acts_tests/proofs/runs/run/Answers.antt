use Rattle.std.proofs.Common.{◌≡◌, ℕ, ◌+◌, true, List, drop, get_or, sym, subst}
use Rattle.pfc_code.specs.Images.{PlainImage, plain_image}
use Rattle.pfc_sched.specs.Picks.{Picking}
use Rattle.pfc_machines.specs.declared.machine.Machine.{Machine}
use Rattle.pfc_acts_tests.specs.Runs.{next_machine, may_run}
use Rattle.pfc_acts_tests.proofs.Turns.{other_turns}
use Rattle.pfc_acts_tests.proofs.runs.run.Goals as goal

pub loop-p-preserved : goal.loop-p-preserved
loop-p-preserved c =
    let image : PlainImage = plain_image c.args.image.now in
    let picks : List ℕ = c.args.picks.now in
    let k : ℕ = c.loop-p.p-index in
    subst (λ (m : Machine). may_run image (drop (k + 1) picks) c.turn.new.picker m ≡ true) (sym c.in_ok-end.ensures.machine)
    (subst (λ (x : Picking). may_run image (drop (k + 1) picks) x (next_machine image c.loop-p.picker (get_or picks k 0) c.loop-p.machine) ≡ true)
    (sym c.in_ok-end.ensures.picker)
    (other_turns image picks k c.loop-p.picker c.loop-p.machine c.loop-p-test.true c.loop-p.invariant))
