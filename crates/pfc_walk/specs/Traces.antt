-- Outcomes where the trace of the run is asked for, or its races.
use Rattle.std.specs.Prelude.{◌≡◌, ℕ, List, [], ◌++◌, Option, Some, None, Result, Ok, Err}
use Rattle.pfc_io.specs.Files.{File}
use Rattle.pfc_sched.specs.declared.picking.Policy.{Policy}
use Rattle.pfc_sched.specs.Picks.{first_picking}
use Rattle.pfc_tree.specs.trees.Parts.{ProgramTree}
use Rattle.pfc_races.specs.Ordered.{races_told}
use Rattle.pfc_traces.specs.Traces.{trace_of, trace_text}
use Rattle.pfc_walker.specs.declared.telling.Told.{Told}
use Rattle.pfc_walker.specs.declared.telling.Told.TheVariants.{Output, Trace}
use Rattle.pfc_outcome.specs.Meanings.{Meaning}
use Rattle.pfc_outcome.specs.Options.{Asked}
use Rattle.pfc_outcome.specs.Outcomes.{Outcome, Ran, IsOutcomeOf, IsOutcomeOfText, behind, listing_written, ran_with, request_by, stopped_at, text_by}
use Rattle.pfc_outcome.specs.Requests.{Request, Settings, policy_of, settings_of}
use Rattle.pfc_outcome.specs.declared.walk_options.Shown.{Shown}
use Rattle.pfc_outcome.specs.declared.walk_options.Shown.TheVariants as shown
use Rattle.pfc_walk.specs.Meanings.{run_of, whole_meaning}
use Rattle.pfc_walk.specs.Running.{report_by}

-- what is told of the actions of a run, of which this is shown
abbrev pub told_in : Shown → Told
told_in shown.Output = Output
told_in shown.Trace = Trace
told_in shown.Races = Output

-- ## The trace

-- the text of the trace of a program's run
abbrev pub trace_by : ProgramTree → Settings → List ℕ
trace_by tree settings = trace_text (trace_of (run_of tree settings))

-- In place of what a run writes stands its trace, behind what is written before it. An outcome without a run stays.
abbrev pub traced_where : Option Ran → List ℕ → Outcome → Outcome
traced_where None heading outcome = outcome
traced_where (Some ran) heading outcome = record outcome { bytes = heading ++ trace_by ran.tree ran.settings }

abbrev pub traced : List ℕ → Outcome → Outcome
traced heading outcome = traced_where outcome.ran heading outcome

-- ## The races

-- the lines of the races of a program's run
unfoldable pub races_by : ProgramTree → Settings → List ℕ
races_by tree settings = races_told tree settings.input settings.seed (first_picking settings.policy) settings.limit

-- They stand behind all that is written, whatever the ending of the run. An outcome without a run stays.
abbrev pub raced_where : Option Ran → Outcome → Outcome
raced_where None outcome = outcome
raced_where (Some ran) outcome = record outcome { bytes = outcome.bytes ++ races_by ran.tree ran.settings }

abbrev pub raced : Outcome → Outcome
raced outcome = raced_where outcome.ran outcome

-- ## Outcomes

-- one of these outcomes, of whose run this is shown
abbrev pub IsToldAs : Shown → List ℕ → (Outcome → Type 0) → Outcome → Type 0
IsToldAs shown.Output heading is outcome = is outcome
IsToldAs shown.Trace heading is outcome = (plain : Outcome) × is plain × (outcome ≡ traced heading plain)
IsToldAs shown.Races heading is outcome = (plain : Outcome) × is plain × (outcome ≡ raced plain)

-- of a text
abbrev pub IsToldOfText : Shown → Meaning → List ℕ → Request → Outcome → Type 0
IsToldOfText shown m text request outcome = IsToldAs shown (listing_written request text) (IsOutcomeOfText m text request) outcome

-- of options and files
abbrev pub listing_by : List File → Asked → List ℕ
listing_by files asked = listing_written (request_by files asked) (text_by files asked.source)

abbrev pub IsToldOf : Shown → Meaning → Asked → List File → Outcome → Type 0
IsToldOf shown m asked files outcome = IsToldAs shown (listing_by files asked) (IsOutcomeOf m asked files) outcome

-- ## A program

-- the run of a program as it is told: its output and its report, or its trace
abbrev pub run_told : Told → ProgramTree → Settings → Outcome
run_told Output tree settings = ran_with whole_meaning tree settings
run_told Trace tree settings = record (ran_with whole_meaning tree settings) { bytes = trace_by tree settings }

-- what stands behind what is told of it
abbrev pub end_by : Told → ProgramTree → Settings → List ℕ
end_by Output tree settings = report_by tree settings
end_by Trace tree settings = []

-- the lines of the races behind them, where these are shown
abbrev pub races_shown : Shown → ProgramTree → Settings → List ℕ
races_shown shown.Output tree settings = []
races_shown shown.Trace tree settings = []
races_shown shown.Races tree settings = races_by tree settings

-- the run of a program, of which this is shown
abbrev pub run_shown : Shown → ProgramTree → Settings → Outcome
run_shown shown.Output tree settings = run_told Output tree settings
run_shown shown.Trace tree settings = run_told Trace tree settings
run_shown shown.Races tree settings =
    record (run_told Output tree settings) { bytes = (run_told Output tree settings).bytes ++ races_by tree settings }

abbrev pub under_shown : Shown → ProgramTree → Request → Result Policy ℕ → Outcome
under_shown shown tree request (Ok policy) = run_shown shown tree (settings_of request policy)
under_shown shown tree request (Err item) = stopped_at whole_meaning tree item

-- the outcome of a text with this tree and this listing
abbrev pub program_shown : Shown → List ℕ → ProgramTree → Request → Outcome
program_shown shown listing tree request = behind listing (under_shown shown tree request (policy_of request))
