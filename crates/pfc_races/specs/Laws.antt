-- The laws of the steps and of the events of a run.
use Rattle.std.specs.Prelude.{◌≡◌, ℕ, ◌≤◌, Bool, List, ◌++◌, length, map, fold}
use Rattle.pfc_sched.specs.Picks.{Picking}
use Rattle.pfc_semantics.specs.Programs.{Program}
use Rattle.pfc_semantics.specs.Configurations.{Config}
use Rattle.pfc_semantics.specs.Events.{Event, Step}
use Rattle.pfc_semantics.specs.Runs.{run_from}
use Rattle.pfc_races.specs.Ordered.{Kept, kept_behind, ordered}
use Rattle.pfc_races.specs.RunSteps.{steps_from}

abbrev pub what_it_was : Step → Event
what_it_was t = t.event

-- the steps of a run are its actions: what each of them was, is an event of the run
abbrev pub AreItsActions : Type 0
AreItsActions =
    (g : Program) (limit left : ℕ) (picking : Picking) (c : Config) → map what_it_was (steps_from g left picking c) ≡ (run_from g limit left picking c).events

-- there are no more events than actions that were left
abbrev pub AreFew : Type 0
AreFew = (g : Program) (left : ℕ) (picking : Picking) (c : Config) (waited : Bool) → length (ordered waited (steps_from g left picking c)) ≤ left

-- what is kept step by step are the events
abbrev pub AreKept : Type 0
AreKept = (k : Kept) (steps : List Step) → (fold kept_behind k steps).events ≡ k.events ++ ordered k.waited steps
