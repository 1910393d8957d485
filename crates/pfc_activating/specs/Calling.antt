-- Calls of subs of the program.
use Rattle.std.specs.Prelude.{◌≡◌, ℕ, List, []}
use Rattle.pfc_semantics.specs.Programs.{Program, block_at}
use Rattle.pfc_semantics.specs.Remainders.{Action}
use Rattle.pfc_semantics.specs.Configurations.{Config}
use Rattle.pfc_semantics.specs.Calls.{called}
use Rattle.pfc_semantics.specs.Steps.{effect, line_of}
use Rattle.pfc_pending.specs.declared.pending.Argument.{Argument}
use Rattle.pfc_pending.specs.Waiting.{given_view}
use Rattle.pfc_activities.specs.declared.activities.Activity.{Activity}
use Rattle.pfc_activities.specs.declared.changes.Done.{Done}
use Rattle.pfc_activities.specs.declared.source.Source.{Source}
use Rattle.pfc_activities.specs.declared.state.State.{State}
use Rattle.pfc_activities.specs.Programs.{IsProgram}
use Rattle.pfc_activities.specs.Relation.{IsAt, Ends}
use Rattle.pfc_activating.specs.declared.entering.Waits.{Waits}
use Rattle.pfc_activating.specs.Entering.{caller_of}

-- a sub of the program, by its scope, is called with these arguments
abbrev pub IsCalled : Source → State → State → ℕ → ℕ → Waits → List Argument → Done → Type 0
IsCalled source old new p scope waits args d =
    (g : Program) (c : Config) (choice : ℕ) (a : Activity) (n : Action)
    → IsProgram source g → IsAt source old c p a n
    → effect g c p choice n ≡ called g c p (block_at g scope) (caller_of source.program.tables a.doing waits) (given_view args)
    → line_of n ≡ a.doing.line → Ends source g new c p choice n [] d
