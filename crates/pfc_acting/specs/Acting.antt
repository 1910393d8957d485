-- One action of a process.
use Rattle.std.specs.Prelude.{ℕ, List}
use Rattle.pfc_pending.specs.declared.actions.Deed.{Deed}
use Rattle.pfc_sched.specs.Picks.{Picking}
use Rattle.pfc_semantics.specs.Programs.{Program}
use Rattle.pfc_semantics.specs.Configurations.{Config}
use Rattle.pfc_semantics.specs.Steps.{next_of}
use Rattle.pfc_activities.specs.declared.activities.Activity.{Activity}
use Rattle.pfc_activities.specs.declared.changes.Done.{Done}
use Rattle.pfc_activities.specs.declared.source.Source.{Source}
use Rattle.pfc_activities.specs.declared.state.State.{State}
use Rattle.pfc_activities.specs.Programs.{IsProgram}
use Rattle.pfc_activities.specs.Views.{doing_ahead, deed_of}
use Rattle.pfc_activities.specs.Relation.{IsAt}
pub use Rattle.pfc_performing.specs.Performing.{IsAction}

-- ## Before an action

-- The state stands for the configuration, except that what process p showed while it waited is not compared.
abbrev pub StandsBefore : Source → State → Config → ℕ → Type 0
StandsBefore source s c p = (a : Activity) × IsAt source s c p a (doing_ahead source.program.tables a.doing)

-- the same, but that this action was taken from the process
abbrev pub IsBeforeDeed : Source → State → Config → ℕ → Deed → Type 0
IsBeforeDeed source s c p deed = (a : Activity) × IsAt source s c p a (deed_of source.program.tables a.doing deed)

-- ## Behind it

-- the action that comes next for the process was done
abbrev pub IsActed : Source → State → State → ℕ → Picking → Picking → List ℕ → List ℕ → Done → Type 0
IsActed source old new p picking picking' out out' d =
    (g : Program) (c : Config) → IsProgram source g → StandsBefore source old c p → IsAction source g new c p (next_of g c p) picking picking' out out' d
