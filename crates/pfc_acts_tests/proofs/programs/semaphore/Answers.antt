use Rattle.std.proofs.Common.{◌≡◌, true, [], ◌∷◌, sym, subst}
use Rattle.pfc_code.specs.Images.{PlainImage}
use Rattle.pfc_sched.specs.Picks.{by_turn}
use Rattle.pfc_machines.specs.Machines.{start_machine}
use Rattle.pfc_acts_tests.specs.Runs.{may_run}
use Rattle.pfc_acts_tests.proofs.Allowed.{semaphore_runs}
use Rattle.pfc_acts_tests.proofs.programs.semaphore.Goals as goal

pub run_of-requires-clause-may : goal.run_of-requires-clause-may
run_of-requires-clause-may c =
    subst (λ (image : PlainImage). may_run image (0 ∷ 0 ∷ 0 ∷ 0 ∷ 1 ∷ 2 ∷ 2 ∷ 2 ∷ 1 ∷ 1 ∷ 0 ∷ []) (by_turn 0)
    (start_machine image [] 1) ≡ true) (sym c.in_ok-image.ensures)
    semaphore_runs
