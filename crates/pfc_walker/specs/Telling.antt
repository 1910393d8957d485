-- What is told of actions: what they print, or who acted.
use Rattle.std.specs.Prelude.{ℕ, ◌≡◌, List, [], ◌∷◌, ◌++◌}
use Rattle.pfc_sched.specs.Picks.{Picking}
use Rattle.pfc_traces.specs.Traces.{actors, trace_text}
use Rattle.pfc_semantics.specs.Programs.{Program}
use Rattle.pfc_semantics.specs.Configurations.{Config}
use Rattle.pfc_semantics.specs.Selects.{choices}
use Rattle.pfc_semantics.specs.Steps.{next_of}
use Rattle.pfc_semantics.specs.Events.{Event}
use Rattle.pfc_semantics.specs.Runs.{choice_among, behind_choice}
use Rattle.pfc_activities.specs.declared.changes.Done.{Done}
use Rattle.pfc_activities.specs.declared.source.Source.{Source}
use Rattle.pfc_activities.specs.declared.state.State.{State}
use Rattle.pfc_activities.specs.Programs.{IsProgram}
use Rattle.pfc_activities.specs.Relation.{Ends}
use Rattle.pfc_acting.specs.Acting.{StandsBefore}
pub use Rattle.pfc_watching.specs.Watching.{step_by}
use Rattle.pfc_walker.specs.declared.telling.Told.{Told}
use Rattle.pfc_walker.specs.declared.telling.Told.TheVariants.{Output, Trace}

-- Of these actions, which lead from one configuration to another, these bytes are told: what they print, or the text of their trace.
abbrev pub AreTold : Told → Config → Config → List Event → List ℕ → Type 0
AreTold Output c d events bytes = d.output ≡ c.output ++ bytes
AreTold Trace c d events bytes = bytes ≡ trace_text (actors events)

-- who picks behind it
abbrev pub behind_step : Program → Config → ℕ → Picking → Picking
behind_step g d p picking = behind_choice picking (choices g d p (next_of g d p))

-- The action of process p was done that comes next for it, and what is told of it stands behind the other bytes.
pub record IsTold (told : Told) (source : Source) (g : Program) (new : State) (c : Config) (p : ℕ) (picking picking' : Picking)
    (out out' : List ℕ) (d : Done) : Type 0 where
  pub printed : List ℕ
  pub ends : Ends source g new c p (choice_among picking (choices g c p (next_of g c p))) (next_of g c p) printed d
  pub picked : picking' ≡ behind_step g c p picking
  pub bytes : List ℕ
  pub tells : AreTold told c (step_by g c p picking).config ((step_by g c p picking).event ∷ []) bytes
  pub written : out' ≡ out ++ bytes

-- whatever the state stood for
abbrev pub IsActTold : Told → Source → State → State → ℕ → Picking → Picking → List ℕ → List ℕ → Done → Type 0
IsActTold told source old new p picking picking' out out' d =
    (g : Program) (c : Config) → IsProgram source g → StandsBefore source old c p → IsTold told source g new c p picking picking' out out' d
