-- The events of a run as its order sees them, and the lines of its races.
use Rattle.std.specs.Prelude.{ℕ, ◌==◌, Bool, false, ◌&&◌, if◌then◌else◌, List, [], ◌∷◌, ◌++◌, Option, Some, None}
use Rattle.pfc_hb.specs.Conflicts.{races_of}
use Rattle.pfc_hb.specs.Lines.{race_lines_text}
use Rattle.pfc_hb.specs.declared.events.Event.{Event as EventSeen}
use Rattle.pfc_state.specs.Stands.{is_at_coend}
use Rattle.pfc_tree.specs.trees.Parts.{ProgramTree}
use Rattle.pfc_world.specs.Tables.{at}
use Rattle.pfc_sched.specs.Picks.{Picking}
use Rattle.pfc_semantics.specs.Programs.{program_of}
use Rattle.pfc_semantics.specs.Configurations.{Config, FaultAt, start}
use Rattle.pfc_semantics.specs.Events.{Event, Step}
use Rattle.pfc_races.specs.RunSteps.{steps_from}
use Rattle.pfc_races.specs.Seen.{event_seen}

-- ## The join behind `coend`

abbrev pub is_of_main : Event → Bool
is_of_main e = e.process == 0

abbrev pub main_is_at_coend : Config → Bool
main_is_at_coend c = is_at_coend (at c.table.rows 0)

-- Whether main's last action began a wait at `coend`, behind a step: only main itself begins such a wait.
abbrev pub waited_behind : Bool → Step → Bool
waited_behind waited t = if is_of_main t.event then main_is_at_coend t.config else waited

-- a step as the order sees it: main's first action after that wait joins
abbrev pub event_behind : Bool → Step → EventSeen
event_behind waited t = event_seen (is_of_main t.event && waited) t.event

-- ## The events of a run

-- A fault is no event. It is the last action of its run.
abbrev pub unless_fault : Option FaultAt → EventSeen → List EventSeen
unless_fault (Some f) event = []
unless_fault None event = event ∷ []

-- the events of some steps, by whether main's last action before them began a wait at `coend`
abbrev pub ordered : Bool → List Step → List EventSeen
ordered waited [] = []
ordered waited (t ∷ ts) = unless_fault t.config.fault (event_behind waited t) ++ ordered (waited_behind waited t) ts

-- the events of the run of a program, over an input, a seed of `random`, a way of picking, and at most so many actions
abbrev pub events_of : ProgramTree → List ℕ → ℕ → Picking → ℕ → List EventSeen
events_of tree input seed picking limit = let g = program_of tree in ordered false (steps_from g limit picking (start g input seed))

-- ## The same, step by step

-- what is kept of the steps so far: their events, and whether main's last action began a wait at `coend`
pub record Kept : Type 0 where
  pub events : List EventSeen
  pub waited : Bool

abbrev pub nothing_kept : Kept
nothing_kept = record { events = []; waited = false }

abbrev pub kept_behind : Kept → Step → Kept
kept_behind k t =
    record { events = k.events ++ unless_fault t.config.fault (event_behind k.waited t); waited = waited_behind k.waited t }

-- ## Its races

-- a line for each race among some events, or one line where there is none
abbrev pub lines_of_races : List EventSeen → List ℕ
lines_of_races events = race_lines_text events (races_of events)

-- behind the report of the run
abbrev pub races_told : ProgramTree → List ℕ → ℕ → Picking → ℕ → List ℕ
races_told tree input seed picking limit = lines_of_races (events_of tree input seed picking limit)
