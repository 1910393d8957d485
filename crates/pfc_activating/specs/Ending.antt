-- The end of an action behind which the state shows all but the line and the count of it.
use Rattle.std.specs.Prelude.{◌≡◌, ℕ, List, ◌++◌, None, Ok}
use Rattle.pfc_semantics.specs.Programs.{Program}
use Rattle.pfc_semantics.specs.Remainders.{Action}
use Rattle.pfc_semantics.specs.Configurations.{Config}
use Rattle.pfc_semantics.specs.Steps.{effect, line_of}
use Rattle.pfc_activities.specs.declared.activities.Activity.{Activity}
use Rattle.pfc_activities.specs.declared.changes.Done.{Done}
use Rattle.pfc_activities.specs.declared.source.Source.{Source}
use Rattle.pfc_activities.specs.declared.state.State.{State}
use Rattle.pfc_activities.specs.Relation.{IsIn, Mirrors, Ends}

-- it ends so at this line, where k is the configuration to which the action has come
abbrev pub EndsAt : State → State → ℕ → ℕ → Done → Type 0
EndsAt old new p line d =
    (source : Source) (g : Program) (c k : Config) (choice : ℕ) (y : Activity) (n : Action) (bytes : List ℕ)
    → Mirrors source old k → k.table.acting ≡ None → k.fault ≡ None → IsIn old.activities.items p y
    → effect g c p choice n ≡ Ok k → line_of n ≡ line → k.output ≡ c.output ++ bytes → Ends source g new c p choice n bytes d
