-- What a run of a text shows: what is written, how it ends, and the standings that a report tells.
use Rattle.std.specs.Prelude.{ℕ, if◌then◌else◌, List, [], ◌∷◌, ◌++◌, map, Option, Some, None}
use Rattle.std.specs.Fmt.{digits}
use Rattle.pfc_state.specs.declared.endings.Ending.{Ending}
use Rattle.pfc_state.specs.declared.endings.Ending.TheVariants.{Finished, Fault}
use Rattle.pfc_state.specs.declared.standings.Standing.{Standing}
use Rattle.pfc_tree.specs.trees.Parts.{ProgramTree}
use Rattle.pfc_values.specs.Outputs.{is_open_line}
use Rattle.pfc_sched.specs.Picks.{Picking}
use Rattle.pfc_sched.specs.Words.{stream, word, after_word}
use Rattle.pfc_report.specs.Reports.{words_of}
use Rattle.pfc_semantics.specs.Runs.{Run, run, standings}
use Rattle.pfc_samples.specs.Texts.{program_in}

-- the standing of a process as a report tells it: its number, its words, and its line
pub record Told : Type 0 where
  pub process : ℕ
  pub words : List ℕ
  pub line : ℕ

-- a run: its output, its ending, and the standings where the report tells them
pub record Shows : Type 0 where
  pub output : List ℕ
  pub ending : Ending
  pub standings : List Told

abbrev pub told : Standing → Option (List ℕ) → List Told → List Told
told s None rest = rest
told s (Some words) rest = record { process = s.process; words = words; line = s.line } ∷ rest

abbrev pub all_told : List Standing → List Told
all_told [] = []
all_told (s ∷ rest) = told s (words_of s.state) (all_told rest)

-- behind Finished and Fault a report tells no standings
abbrev pub told_behind : Ending → List Standing → List Told
told_behind Finished all = []
told_behind (Fault p line f) all = []
told_behind ending all = all_told all

abbrev pub shown : Run → Shows
shown r = record { output = r.config.output; ending = r.ending; standings = told_behind r.ending (standings r.config) }

abbrev pub run_of : Option ProgramTree → List ℕ → ℕ → Picking → ℕ → Option Run
run_of None input seed picking limit = None
run_of (Some t) input seed picking limit = Some (run t input seed picking limit)

abbrev pub shown_of : Option Run → Option Shows
shown_of None = None
shown_of (Some r) = Some (shown r)

-- The run of a text over an input, a seed of `random`, a way of picking, and at most so many actions; None where the text has a fault.
unfoldable pub ran : List ℕ → List ℕ → ℕ → Picking → ℕ → Option Shows
unfolding program_in digits stream word after_word
ran text input seed picking limit = shown_of (run_of (program_in text) input seed picking limit)

-- ## What a sample expects

abbrev pub shows : List ℕ → Ending → List Told → Option Shows
shows output ending standings = Some (record { output = output; ending = ending; standings = standings })

-- a standing of a report
abbrev pub stands : ℕ → List ℕ → ℕ → Told
stands process words line = record { process = process; words = words; line = line }

-- ## As a report tells it

-- A report begins on a line of its own: behind an open line comes a byte 10.
abbrev pub closed : List ℕ → List ℕ
closed bytes = if is_open_line bytes then bytes ++ 10 ∷ [] else bytes

-- the bytes before the report, the ending, the standings, and the number of the process of each action
pub record Report : Type 0 where
  pub before : List ℕ
  pub ending : Ending
  pub standings : List Told
  pub trace : List ℕ

abbrev pub reported : Run → Report
reported r =
    record {
      before = closed r.config.output;
      ending = r.ending;
      standings = told_behind r.ending (standings r.config);
      trace = map (λ e. e.process) r.events;
    }

abbrev pub report_of : Option Run → Option Report
report_of None = None
report_of (Some r) = Some (reported r)

-- without the trace
abbrev pub untraced : Option Report → Option Report
untraced None = None
untraced (Some r) = Some (record r { trace = [] })

unfoldable pub told_of : List ℕ → List ℕ → ℕ → Picking → ℕ → Option Report
unfolding program_in digits stream word after_word
told_of text input seed picking limit = report_of (run_of (program_in text) input seed picking limit)

abbrev pub tells : List ℕ → Ending → List Told → List ℕ → Option Report
tells before ending standings trace = Some (record { before = before; ending = ending; standings = standings; trace = trace })
