-- The end of a procedure, wherever it was called from.
use Rattle.std.proofs.Common.{◌≡◌, ℕ, refl}
use Rattle.pfc_semantics.specs.Remainders.{Action, finishes}
use Rattle.pfc_semantics.specs.Configurations.{Mark, plain, of_monitor, of_resource, Config, activity_of}
use Rattle.pfc_machines.specs.declared.machine.Machine.{Machine}
use Rattle.pfc_representation.specs.Levels.{Facts, program_in, LivingLevel}
use Rattle.pfc_representation.specs.Trials.{mark_of}
use Rattle.pfc_representation.specs.Acting.{IsActing, HasArrived}
use Rattle.pfc_representation.specs.Actions.{IsKept}
use Rattle.pfc_kept_calls.specs.Groups.{EndsProcedure}
use Rattle.pfc_kept_calls.proofs.Returning.{procedure_ends}
use Rattle.pfc_kept_calls.proofs.Scanning.{resource_left}
use Rattle.pfc_kept_modules.specs.Endings.{EndsInMonitor, IsInOnce}
use Rattle.pfc_kept_modules.proofs.Leaving.{monitor_left}

as_procedure : (level : LivingLevel) (action : Action) → EndsInMonitor level action → EndsProcedure level action
as_procedure level (finishes line) ends = ends.0
as_procedure level action ends = absurd ends

pub procedure_left : (facts : Facts) (m : Machine) (c : Config) (p choice : ℕ) (level : LivingLevel) (action : Action) → EndsInMonitor level action
    → IsInOnce (mark_of (activity_of (program_in facts) c p).activations) (activity_of (program_in facts) c p).activations → IsActing facts m c p level
    → HasArrived facts m c p level action → IsKept facts m c p choice action
procedure_left facts m c p choice level action ends once acting arrived =
    by (mark_of (activity_of (program_in facts) c p).activations) refl once
  where
    by : (mark : Mark) → mark_of (activity_of (program_in facts) c p).activations ≡ mark → IsInOnce mark (activity_of (program_in facts) c p).activations
        → IsKept facts m c p choice action
    by plain is once = procedure_ends facts m c p choice level action (as_procedure level action ends) is acting arrived
    by (of_monitor n) is once = monitor_left facts m c p choice n level action ends is once acting arrived
    by (of_resource r) is once = resource_left facts m c p choice r level action (as_procedure level action ends) is acting arrived
