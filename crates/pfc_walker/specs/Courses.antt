-- What runs, and turns of runs, come to.
use Rattle.std.specs.Prelude.{ℕ, ◌+◌, ◌≡◌, ◌≢◌, Bool, List, [], ◌∷◌, ◌++◌, Option, Some, None}
use Rattle.std.specs.Io.KnownBytes.{Appends}
use Rattle.pfc_io.specs.Writes.{AppendsFront}
use Rattle.pfc_sched.specs.Picks.{Picking}
use Rattle.pfc_state.specs.declared.endings.Ending.{Ending}
use Rattle.pfc_state.specs.declared.endings.Ending.TheVariants.{Finished, Fault, Deadlock, Limit, Script, SinkFailed, Memory}
use Rattle.pfc_values.specs.Outputs.{is_open_line}
use Rattle.pfc_semantics.specs.Programs.{Program}
use Rattle.pfc_semantics.specs.Configurations.{Config}
use Rattle.pfc_semantics.specs.Events.{Event}
use Rattle.pfc_semantics.specs.Runs.{Run, run_from}
use Rattle.pfc_races.specs.RunSteps.{steps_from}
use Rattle.pfc_activities.specs.declared.source.Source.{Source}
use Rattle.pfc_activities.specs.declared.state.State.{State}
use Rattle.pfc_activities.specs.Relation.{Stands, Reports}
use Rattle.pfc_walker.specs.Lines.{open_behind}
use Rattle.pfc_walker.specs.Telling.{AreTold, behind_step, step_by}
use Rattle.pfc_walker.specs.declared.telling.Told.{Told}
use Rattle.pfc_walker.specs.declared.telling.Told.TheVariants.{Output, Trace}

-- ## Runs

-- the run h is the first actions and then the run f: both end with the same ending, in the same configuration
pub record GoesOn (first : List Event) (f h : Run) : Type 0 where
  pub ending : f.ending ≡ h.ending
  pub config : f.config ≡ h.config
  pub events : h.events ≡ first ++ f.events

-- A configuration of a run, with the actions that lead there: its last one, or one from which it goes on to its end.
pub data IsPassed (g : Program) (limit : ℕ) (f : Run) : Config → List Event → Type 0 where
  last : IsPassed g limit f f.config f.events
  on_the_way : (left : ℕ) (picking : Picking) (d : Config) (events : List Event) →
      GoesOn events (run_from g limit left picking d) f → IsPassed g limit f d events

-- the run came to this ending: the state reports how all stand at its end, and what is told of it is written
pub record Completes (told : Told) (f : Run) (c : Config) (new : State) (ending : Ending) (before after : Option (List ℕ)) : Type 0 where
  pub ends : ending ≡ f.ending
  pub reports : Reports new f.config
  pub bytes : List ℕ
  pub tells : AreTold told c f.config f.events bytes
  pub written : Appends before after bytes

-- the run was broken off: a front of what is told of it up to one of its configurations is written
pub record IsBrokenOff (told : Told) (g : Program) (limit : ℕ) (f : Run) (c : Config) (before after : Option (List ℕ)) : Type 0 where
  pub config : Config
  pub events : List Event
  pub passed : IsPassed g limit f config events
  pub bytes : List ℕ
  pub tells : AreTold told c config events bytes
  pub front : AppendsFront before after bytes

-- this is what a run from a configuration on came to: a sink that takes no more bytes and want of memory break it off
abbrev pub IsCourse : Told → Program → ℕ → Run → Config → State → Ending → Option (List ℕ) → Option (List ℕ) → Type 0
IsCourse told g limit f c new Finished before after = Completes told f c new Finished before after
IsCourse told g limit f c new (Fault process line fault) before after = Completes told f c new (Fault process line fault) before after
IsCourse told g limit f c new Deadlock before after = Completes told f c new Deadlock before after
IsCourse told g limit f c new (Limit n) before after = Completes told f c new (Limit n) before after
IsCourse told g limit f c new (Script item why) before after = Completes told f c new (Script item why) before after
IsCourse told g limit f c new SinkFailed before after = IsBrokenOff told g limit f c before after
IsCourse told g limit f c new Memory before after = IsBrokenOff told g limit f c before after

-- whether the output ends inside a line is known where it is told
abbrev pub KnowsLine : Told → Bool → List ℕ → Type 0
KnowsLine Output line output = line ≡ is_open_line output
KnowsLine Trace line output = Unit {0}

-- a run that was not broken off knows it at its end
abbrev pub EndsLine : Told → Run → Ending → Bool → Type 0
EndsLine told f SinkFailed line = Unit {0}
EndsLine told f Memory line = Unit {0}
EndsLine told f ending line = KnowsLine told line f.config.output

-- ## Turns

-- An action was done and no fault: the state stands for a further configuration, what is told of the action is written, and the run goes on from
-- there to the same end, with one action less that is left.
pub record Continues (told : Told) (source : Source) (g : Program) (limit left : ℕ) (picking picking' : Picking) (c : Config) (new : State)
    (before after : Option (List ℕ)) : Type 0 where
  pub config : Config
  pub rest : ℕ
  pub one : left ≡ rest + 1
  pub stands : Stands source new config
  pub events : List Event
  pub same : GoesOn events (run_from g limit rest picking' config) (run_from g limit left picking c)
  pub bytes : List ℕ
  pub tells : AreTold told c config events bytes
  pub written : Appends before after bytes

-- a turn came to this ending, or to none, and the run goes on
abbrev pub IsTurn : Told → Source → Program → ℕ → ℕ → Picking → Picking → Config → State → Option Ending → Option (List ℕ) → Option (List ℕ) → Type 0
IsTurn told source g limit left picking picking' c new None before after = Continues told source g limit left picking picking' c new before after
IsTurn told source g limit left picking picking' c new (Some ending) before after =
    IsCourse told g limit (run_from g limit left picking c) c new ending before after

-- Process p is picked in a configuration to which the first one settled, and so many actions are left behind its step: there the run goes on.
pub record IsPick (g : Program) (limit left : ℕ) (picking behind : Picking) (c d : Config) (p : ℕ) : Type 0 where
  pub output : d.output ≡ c.output
  pub goes :
      GoesOn ((step_by g d p behind).event ∷ []) (run_from g limit left (behind_step g d p behind) (step_by g d p behind).config)
      (run_from g limit (left + 1) picking c)
  pub steps : steps_from g (left + 1) picking c ≡ step_by g d p behind ∷ steps_from g left (behind_step g d p behind) (step_by g d p behind).config

-- the run from a configuration on comes to this ending before its first action, unless memory is wanting
pub record IsOver (g : Program) (limit left : ℕ) (picking : Picking) (c : Config) (new : State) (ending : Ending) : Type 0 where
  pub course : (told : Told) (out : List ℕ) → IsCourse told g limit (run_from g limit left picking c) c new ending (Some out) (Some out)
  pub none : ending ≢ Memory → steps_from g left picking c ≡ []

-- ## Gathered bytes

-- Turns led from a configuration to a further one without a fault, from which the run goes on to the same end: of what is told of them the first
-- bytes were sent to the sink, and the others are held. Whether those that were sent end inside a line is known.
pub record Gathers (told : Told) (source : Source) (g : Program) (limit : ℕ) (f : Run) (left : ℕ) (picking : Picking) (c : Config) (now : State) (held : List ℕ)
    (line : Bool) (before after : Option (List ℕ)) : Type 0 where
  pub config : Config
  pub stands : Stands source now config
  pub events : List Event
  pub same : GoesOn events (run_from g limit left picking config) f
  pub sent : List ℕ
  pub tells : AreTold told c config events (sent ++ held)
  pub written : Appends before after sent
  pub inside : KnowsLine told line (c.output ++ sent)

-- the sink was handed the first of the bytes that were held, and the others are still held
pub record IsSent (old new : List ℕ) (line line' : Bool) (before after : Option (List ℕ)) : Type 0 where
  pub sent : List ℕ
  pub both : old ≡ sent ++ new
  pub written : Appends before after sent
  pub inside : line' ≡ open_behind line sent

-- The sink was handed all bytes that are held, unless memory was refused; or it took no more.
pub data IsHandedOver (held : List ℕ) (before after : Option (List ℕ)) (ending : Ending) : Ending → Type 0 where
  whole : Appends before after held → IsHandedOver held before after ending ending
  dropped : ending ≡ Memory → AppendsFront before after held → IsHandedOver held before after ending ending
  failed : AppendsFront before after held → IsHandedOver held before after ending SinkFailed
