-- What turns of a run that is watched come to.
use Rattle.std.specs.Prelude.{◌≡◌, ℕ, ◌+◌, Bool, List, [], ◌∷◌, ◌++◌, Option, Some, None}
use Rattle.pfc_hb.specs.declared.events.Event.{Event as EventSeen}
use Rattle.pfc_sched.specs.Picks.{Picking}
use Rattle.pfc_semantics.specs.Programs.{Program}
use Rattle.pfc_semantics.specs.Configurations.{Config}
use Rattle.pfc_races.specs.Ordered.{ordered}
use Rattle.pfc_races.specs.RunSteps.{steps_from}
use Rattle.pfc_activities.specs.declared.source.Source.{Source}
use Rattle.pfc_activities.specs.declared.state.State.{State}
use Rattle.pfc_activities.specs.Relation.{Stands}
use Rattle.pfc_watching.specs.declared.acting.Walked.{Walked}
use Rattle.pfc_watching.specs.declared.acting.Walked.TheVariants.{Stepped, Faulted}

-- the events of the run from a configuration on, by whether main's last action before it began a wait at `coend`
abbrev pub events_from : Program → ℕ → Picking → Bool → Config → List EventSeen
events_from g left picking waited c = ordered waited (steps_from g left picking c)

-- the event that an action was
abbrev pub event_in : Walked → Option EventSeen
event_in (Stepped event) = Some event
event_in (Faulted line fault) = None

-- This is the first of them, behind which the state stands for a further configuration, and the others are those of the run from there on.
pub record IsFirstEvent (source : Source) (g : Program) (left : ℕ) (picking picking' : Picking) (waited waited' : Bool) (c : Config)
    (new : State) (event : EventSeen) : Type 0 where
  pub config : Config
  pub rest : ℕ
  pub one : left ≡ rest + 1
  pub stands : Stands source new config
  pub events : events_from g left picking waited c ≡ event ∷ events_from g rest picking' waited' config

-- or there is none
abbrev pub IsNextEvent : Source → Program → ℕ → Picking → Picking → Bool → Bool → Config → State → Option EventSeen → Type 0
IsNextEvent source g left picking picking' waited waited' c new (Some event) = IsFirstEvent source g left picking picking' waited waited' c new event
IsNextEvent source g left picking picking' waited waited' c new None = events_from g left picking waited c ≡ []

-- The state stands for a configuration of the run with these events, of which these are the first, and the others are those of the run from there on.
pub record Watched (source : Source) (g : Program) (left : ℕ) (picking : Picking) (waited : Bool) (now : State) (events all : List EventSeen) : Type 0 where
  pub config : Config
  pub stands : Stands source now config
  pub both : events ++ events_from g left picking waited config ≡ all
