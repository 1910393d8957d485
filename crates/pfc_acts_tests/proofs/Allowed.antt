-- What is asked of each action of these programs is met.
use Rattle.std.proofs.Common.{◌≡◌, true, [], ◌∷◌, refl}
use Rattle.pfc_sched.specs.Picks.{by_turn}
use Rattle.pfc_machines.specs.Machines.{start_machine}
use Rattle.pfc_acts_tests.specs.Programs.{sum_image, reference_image, semaphore_image, message_image, rendezvous_image, monitor_image, select_image}
use Rattle.pfc_acts_tests.specs.Programs.{resource_image, fault_image}
use Rattle.pfc_acts_tests.specs.Runs.{may_run}

pub sum_runs : may_run sum_image (0 ∷ 0 ∷ 0 ∷ 0 ∷ 0 ∷ 0 ∷ 0 ∷ 0 ∷ 0 ∷ 0 ∷ 0 ∷ 0 ∷ 0 ∷ []) (by_turn 0) (start_machine sum_image [] 1) ≡ true
sum_runs = refl

pub reference_runs : may_run reference_image (0 ∷ 0 ∷ 0 ∷ 0 ∷ 0 ∷ 0 ∷ 0 ∷ []) (by_turn 0) (start_machine reference_image [] 1) ≡ true
reference_runs = refl

pub semaphore_runs : may_run semaphore_image (0 ∷ 0 ∷ 0 ∷ 0 ∷ 1 ∷ 2 ∷ 2 ∷ 2 ∷ 1 ∷ 1 ∷ 0 ∷ []) (by_turn 0) (start_machine semaphore_image [] 1) ≡ true
semaphore_runs = refl

pub message_runs : may_run message_image (0 ∷ 0 ∷ 0 ∷ 1 ∷ 2 ∷ 2 ∷ 1 ∷ 1 ∷ 1 ∷ 0 ∷ []) (by_turn 0) (start_machine message_image [] 1) ≡ true
message_runs = refl

pub rendezvous_runs : may_run rendezvous_image (0 ∷ 0 ∷ 0 ∷ 1 ∷ 2 ∷ 1 ∷ 1 ∷ 1 ∷ 1 ∷ 2 ∷ 2 ∷ 2 ∷ 0 ∷ []) (by_turn 0) (start_machine rendezvous_image [] 1) ≡ true
rendezvous_runs = refl

pub monitor_runs : may_run monitor_image (0 ∷ 0 ∷ 0 ∷ 1 ∷ 1 ∷ 2 ∷ 2 ∷ 1 ∷ 1 ∷ 1 ∷ 2 ∷ 2 ∷ 2 ∷ 0 ∷ []) (by_turn 0) (start_machine monitor_image [] 1) ≡ true
monitor_runs = refl

pub select_runs : may_run select_image (0 ∷ 0 ∷ 0 ∷ 0 ∷ 1 ∷ 2 ∷ 3 ∷ 3 ∷ 3 ∷ 1 ∷ []) (by_turn 0) (start_machine select_image [] 1) ≡ true
select_runs = refl

pub resource_runs : may_run resource_image (0 ∷ 0 ∷ 0 ∷ 1 ∷ 1 ∷ 1 ∷ 2 ∷ 2 ∷ 2 ∷ 2 ∷ 2 ∷ 2 ∷ 2 ∷ 1 ∷ 1 ∷ 1 ∷ 1 ∷ 0 ∷ []) (by_turn 0)
    (start_machine resource_image [] 1) ≡ true
resource_runs = refl

pub fault_runs : may_run fault_image (0 ∷ 0 ∷ 0 ∷ []) (by_turn 0) (start_machine fault_image [] 1) ≡ true
fault_runs = refl
