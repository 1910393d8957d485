-- The laws of traces and outcomes.
use Rattle.std.specs.Prelude.{◌≡◌, ◌≤◌, ℕ, List, length, Some}
use Rattle.pfc_io.specs.Files.{File, bytes_of}
use Rattle.pfc_outcome.specs.Loading.{stream_limit}
use Rattle.pfc_outcome.specs.Meanings.{Meaning}
use Rattle.pfc_outcome.specs.Options.{Asked}
use Rattle.pfc_outcome.specs.Outcomes.{Outcome, Ran, IsOutcomeOf, IsOutcomeOfText, file_of}
use Rattle.pfc_outcome.specs.Requests.{Request}
use Rattle.pfc_replays.specs.Replays.{IsOfSource, IsReplayed, IsSameFile, replayed, script_of, with_script}

-- of a text, with the same input, seed, limit, listing and code text
abbrev pub ReplaysText : Type 0
ReplaysText =
    (m : Meaning) (text : List ℕ) (request : Request) (outcome : Outcome) (ran : Ran)
    → IsOfSource m → IsOutcomeOfText m text request outcome → outcome.ran ≡ Some ran → IsReplayed ran
    → IsOutcomeOfText m text (with_script request (script_of ran)) (replayed outcome ran)

-- of options and files, where the text and the input are the same, and the script is a file of at most 1,048,576 bytes
abbrev pub ReplaysOptions : Type 0
ReplaysOptions =
    (m : Meaning) (asked : Asked) (files others : List File) (name : List ℕ) (outcome : Outcome) (ran : Ran)
    → IsOfSource m → IsOutcomeOf m asked files outcome → outcome.ran ≡ Some ran → IsReplayed ran
    → IsSameFile files others (file_of asked.source) → IsSameFile files others asked.input
    → bytes_of name others ≡ Some (script_of ran) → length (script_of ran) ≤ stream_limit
    → IsOutcomeOf m (record asked { script = Some name }) others (replayed outcome ran)
