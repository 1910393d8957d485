-- A relation that every action keeps.
use Rattle.std.proofs.Common.{ℕ, zero, suc}
use Rattle.pfc_code.specs.Images.{PlainImage}
use Rattle.pfc_machines.specs.declared.machine.Machine.{Machine}
use Rattle.pfc_machine_acts.specs.Settling.{machine_settled}
use Rattle.pfc_sched.specs.Picks.{Picking}
use Rattle.pfc_semantics.specs.Configurations.{Config}
use Rattle.pfc_semantics.specs.Programs.{Program}
use Rattle.pfc_sessions.specs.Runs.{IsPicked, step_of}
use Rattle.pfc_run_agreement.specs.Agreement.{behind_action, AgreesHere, ActsAlike, Agree}

-- Where machine and configuration stand in it, they agree for any number of actions.
pub kept_agrees :
    (image : PlainImage) (g : Program) (Relates : Machine → Config → Type 0)
    → ((m : Machine) (c : Config) → Relates m c → AgreesHere m c)
    → ((picking : Picking) (m : Machine) (c : Config) (p : ℕ) → Relates m c → IsPicked picking (machine_settled m) p → ActsAlike image g picking m c p Relates)
    → (left : ℕ) (picking : Picking) (m : Machine) (c : Config) → Relates m c → Agree image g left picking m c
kept_agrees image g Relates here acts zero picking m c relates = here m c relates
kept_agrees image g Relates here acts (suc left) picking m c relates = record {
  here = here m c relates;
  may = λ p pick. (acts picking m c p relates pick).may;
  alike = λ p pick. (acts picking m c p relates pick).alike;
  onward = λ p pick sound.
      kept_agrees image g Relates here acts left (step_of image picking m p).picking (step_of image picking m p).machine (behind_action g picking c p)
      ((acts picking m c p relates pick).kept sound);
}
