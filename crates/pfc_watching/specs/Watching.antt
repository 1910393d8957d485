-- What is told of a step.
use Rattle.std.specs.Prelude.{◌≡◌, ℕ, Bool, List}
use Rattle.pfc_sched.specs.Picks.{Picking}
use Rattle.pfc_semantics.specs.Programs.{Program}
use Rattle.pfc_semantics.specs.Remainders.{Action}
use Rattle.pfc_semantics.specs.Configurations.{Config}
use Rattle.pfc_semantics.specs.Selects.{choices}
use Rattle.pfc_semantics.specs.Steps.{next_of}
use Rattle.pfc_semantics.specs.Events.{Step, step}
use Rattle.pfc_semantics.specs.Runs.{choice_among}
use Rattle.pfc_races.specs.Ordered.{event_behind, waited_behind}
use Rattle.pfc_races.specs.Seen.{event_seen}
use Rattle.pfc_activities.specs.declared.changes.Done.{Done}
use Rattle.pfc_activities.specs.declared.changes.Done.TheVariants as done
use Rattle.pfc_activities.specs.declared.source.Source.{Source}
use Rattle.pfc_activities.specs.declared.state.State.{State}
use Rattle.pfc_activities.specs.Programs.{IsProgram}
use Rattle.pfc_activities.specs.Relation.{Ends}
use Rattle.pfc_acting.specs.Acting.{StandsBefore}
use Rattle.pfc_events.specs.Events.{Foretells, event_meant}
use Rattle.pfc_events.specs.declared.events.Coming.{Coming}
use Rattle.pfc_watching.specs.declared.acting.Walked.{Walked}
use Rattle.pfc_watching.specs.declared.acting.Walked.TheVariants.{Stepped, Faulted}

-- the step of process p, with the choice that the picker makes
abbrev pub step_by : Program → Config → ℕ → Picking → Step
step_by g c p picking = step g c p (choice_among picking (choices g c p (next_of g c p)))

-- without what it was for the order
abbrev pub done_of : Walked → Done
done_of (Stepped event) = done.Stepped
done_of (Faulted line fault) = done.Faulted line fault

-- ## Behind a wait of main

-- What a step was, where this says whether main's last action before it began a wait at `coend`. A fault is no event.
abbrev pub IsEventBehind : Bool → Step → Walked → Type 0
IsEventBehind waited t (Stepped event) = event ≡ event_behind waited t
IsEventBehind waited t (Faulted line fault) = Unit {0}

-- it is told, and whether main's last action began such a wait now
pub record Watches (t : Step) (waited waited' : Bool) (w : Walked) : Type 0 where
  pub event : IsEventBehind waited t w
  pub waits : waited' ≡ waited_behind waited t

-- the step of the process, whatever the state stood for
abbrev pub IsWatched : Source → State → ℕ → Picking → Bool → Bool → Walked → Type 0
IsWatched source s p picking waited waited' w =
    (g : Program) (c : Config) → IsProgram source g → StandsBefore source s c p → Watches (step_by g c p picking) waited waited' w

-- ## Where it is known whether the action joins

abbrev pub IsEventOf : Bool → Step → Walked → Type 0
IsEventOf joins t (Stepped event) = event ≡ event_seen joins t.event
IsEventOf joins t (Faulted line fault) = Unit {0}

abbrev pub TellsEvent : Source → State → ℕ → Bool → Picking → Walked → Type 0
TellsEvent source s p joins picking w =
    (g : Program) (c : Config) → IsProgram source g → StandsBefore source s c p → IsEventOf joins (step_by g c p picking) w

-- What came is told, and the action was done: its event is what the definitions say that it was.
abbrev pub IsHappened : State → ℕ → Bool → Coming → Walked → Type 0
IsHappened new p joins coming (Stepped event) =
    (source : Source) (g : Program) (c : Config) (choice : ℕ) (n : Action) (bytes : List ℕ)
    → Foretells g c p choice n coming → Ends source g new c p choice n bytes done.Stepped → event ≡ event_meant g c p choice n joins
IsHappened new p joins coming (Faulted line fault) = Unit {0}
