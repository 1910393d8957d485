-- A run, and what of it an outcome tells.
use Rattle.std.specs.Prelude.{◌≡◌, ℕ, ◌<◌, List, length, Option, Some, None}
use Rattle.pfc_io.specs.Files.{File, bytes_of}
use Rattle.pfc_sched.specs.Picks.{first_picking}
use Rattle.pfc_sched.specs.declared.picking.Policy.TheVariants.{Script}
use Rattle.pfc_tree.specs.trees.Parts.{ProgramTree}
use Rattle.pfc_semantics.specs.Configurations.{start}
use Rattle.pfc_semantics.specs.Programs.{program_of}
use Rattle.pfc_semantics.specs.Runs as runs
use Rattle.pfc_semantics.specs.Runs.{run, standings}
use Rattle.pfc_traces.specs.Choices.{AreFirst, choices_from}
use Rattle.pfc_traces.specs.Laws.{IsUnstopped}
use Rattle.pfc_traces.specs.Traces.{trace_of, trace_text}
use Rattle.pfc_outcome.specs.Meanings.{Meaning, Run}
use Rattle.pfc_outcome.specs.Outcomes.{Outcome, Ran}
use Rattle.pfc_outcome.specs.Requests.{Request, Settings}

-- the source text's own run
abbrev pub source_run : Ran → runs.Run
source_run ran = run ran.tree ran.settings.input ran.settings.seed (first_picking ran.settings.policy) ran.settings.limit

-- what is chosen in it
abbrev pub source_choices : Ran → List ℕ
source_choices ran =
    let g = program_of ran.tree in
    choices_from g ran.settings.limit (first_picking ran.settings.policy) (start g ran.settings.input ran.settings.seed)

-- what is told of a run's end
abbrev pub told_of : runs.Run → Run
told_of f = record { ending = f.ending; output = f.config.output; standings = standings f.config }

-- the runs of this meaning are those of source texts
abbrev pub IsOfSource : Meaning → Type 0
IsOfSource m = (t : ProgramTree) (settings : Settings) → m.run t settings ≡ told_of (source_run (record { tree = t; settings = settings }))

-- The run can be picked by its trace: no script stopped it, every choice was the first, and each process has a number of 32 bits.
pub record IsReplayed (ran : Ran) : Type 0 where
  pub unstopped : IsUnstopped (source_run ran).ending
  pub first : AreFirst (source_choices ran)
  pub few : length (program_of ran.tree).objects.processes < 4294967295

-- the script of the run: the text of its trace
abbrev pub script_of : Ran → List ℕ
script_of ran = trace_text (trace_of (source_run ran))

-- the same request with another script
abbrev pub with_script : Request → List ℕ → Request
with_script request bytes = record request { script = Some bytes }

-- the same outcome, of the run that the trace picks
abbrev pub replayed : Outcome → Ran → Outcome
replayed outcome ran =
    record outcome { ran = Some (record { tree = ran.tree; settings = record ran.settings { policy = Script (trace_of (source_run ran)) } }) }

-- the file of this name is the same in both
abbrev pub IsSameFile : List File → List File → Option (List ℕ) → Type 0
IsSameFile files others None = Unit {0}
IsSameFile files others (Some name) = bytes_of name others ≡ bytes_of name files
