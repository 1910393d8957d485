-- The outcome of the walker's words and the files.
use Rattle.std.specs.Prelude.{◌≡◌, ℕ, List, Option, Some, None, codes}
use Rattle.pfc_io.specs.Files.{File}
use Rattle.pfc_outcome.specs.Meanings.{Meaning}
use Rattle.pfc_outcome.specs.Options.{Asked}
use Rattle.pfc_outcome.specs.Outcomes.{Outcome, without_run}
use Rattle.pfc_outcome.specs.WalkOptions.{shown_of, walk_options_of}
use Rattle.pfc_outcome.specs.declared.walk_options.Shown.{Shown}
use Rattle.pfc_walk.specs.Traces.{IsToldOf}

-- the line for refused words
abbrev pub refused_text : List ℕ
refused_text = codes "-- words refused\n"

abbrev pub IsWalkOutcomeBy : Shown → Meaning → Option Asked → List File → Outcome → Type 0
IsWalkOutcomeBy shown m None files outcome = outcome ≡ without_run 2 refused_text
IsWalkOutcomeBy shown m (Some asked) files outcome = IsToldOf shown m asked files outcome

-- The outcome of the words of `pfcwalk` and the files: status 2 where the words ask for nothing; else that of its options, as `pfc` has it. Where the
-- words ask for the trace of the run, it stands in place of the output and the report. Where they ask for its races, their lines stand behind the
-- report.
abbrev pub IsWalkOutcome : Meaning → List (List ℕ) → List File → Outcome → Type 0
IsWalkOutcome m words files outcome = IsWalkOutcomeBy (shown_of words) m (walk_options_of words) files outcome
