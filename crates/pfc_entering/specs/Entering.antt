-- Calls of exported procedures from outside.
use Rattle.std.specs.Prelude.{◌≡◌, ℕ, List, []}
use Rattle.pfc_semantics.specs.Monitors.{enters_monitor}
use Rattle.pfc_semantics.specs.Programs.{Program, Block, block_at}
use Rattle.pfc_semantics.specs.Remainders as remainders
use Rattle.pfc_semantics.specs.Remainders.{Action}
use Rattle.pfc_semantics.specs.Resources.{enters_resource}
use Rattle.pfc_semantics.specs.Configurations.{Caller, Config, Effect}
use Rattle.pfc_semantics.specs.Steps.{effect, line_of, enters_module}
use Rattle.pfc_pending.specs.declared.pending.Argument.{Argument}
use Rattle.pfc_pending.specs.Waiting.{given_view}
use Rattle.pfc_activities.specs.declared.activities.Activity.{Activity}
use Rattle.pfc_activities.specs.declared.changes.Done.{Done}
use Rattle.pfc_activities.specs.declared.source.Source.{Source}
use Rattle.pfc_activities.specs.declared.state.State.{State}
use Rattle.pfc_activities.specs.Programs.{IsProgram}
use Rattle.pfc_activities.specs.Relation.{IsAt, Ends}
use Rattle.pfc_activating.specs.declared.entering.Waits.TheVariants as waits
use Rattle.pfc_activating.specs.Entering.{caller_of}

-- the process calls from a statement, by this rule, a procedure with these arguments
abbrev pub IsCalledBy : (Program → Config → Block → Caller → List remainders.Argument → Effect) → Source → State → State → ℕ → ℕ → List Argument → Done → Type 0
IsCalledBy rule source old new p scope args d =
    (g : Program) (c : Config) (choice : ℕ) (a : Activity) (n : Action)
    → IsProgram source g → IsAt source old c p a n
    → effect g c p choice n ≡ rule g c (block_at g scope) (caller_of source.program.tables a.doing waits.Statement) (given_view args)
    → line_of n ≡ a.doing.line → Ends source g new c p choice n [] d

-- one of the monitor, of the resource, or of the module with this number
abbrev pub EntersMonitor : Source → State → State → ℕ → ℕ → ℕ → List Argument → Done → Type 0
EntersMonitor source old new p m scope args d =
    IsCalledBy (λ g c block caller given. enters_monitor g c p block m caller given) source old new p scope args d

abbrev pub EntersResource : Source → State → State → ℕ → ℕ → ℕ → List Argument → Done → Type 0
EntersResource source old new p r scope args d =
    IsCalledBy (λ g c block caller given. enters_resource g c p block r caller given) source old new p scope args d

abbrev pub EntersModule : Source → State → State → ℕ → ℕ → ℕ → List Argument → Done → Type 0
EntersModule source old new p n scope args d =
    IsCalledBy (λ g c block caller given. enters_module g c p n block caller given) source old new p scope args d
