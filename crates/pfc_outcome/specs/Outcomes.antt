-- The outcome of the words and the files, case by case: a status, and the bytes that are written.
use Rattle.std.specs.Prelude.{◌≡◌, ℕ, ◌<◌, ◌≤◌, false, List, [], ◌++◌, All, if◌then◌else◌, length, map, get_or, Option, Some, None, Result, Ok}
use Rattle.std.specs.Prelude.{Err, unwrap_or}
use Rattle.pfc_base.specs.declared.places.Place.{Place}
use Rattle.pfc_base.specs.declared.faults.Refusal.{Refusal}
use Rattle.pfc_base.specs.declared.tokens.Token.{Token}
use Rattle.pfc_values.specs.Outputs.{is_open_line}
use Rattle.pfc_io.specs.Files.{File, bytes_of}
use Rattle.pfc_scan.specs.Cutting.{Cutting, tokens, refusal, IsCut}
use Rattle.pfc_tree.specs.Symbols.{symbols}
use Rattle.pfc_tree.specs.Grammar.{IsSyntaxFault, most_depth}
use Rattle.pfc_tree.specs.depths.Parts.{depths_of}
use Rattle.pfc_tree.specs.trees.Parts.{ProgramTree}
use Rattle.pfc_tree.specs.forget.Parts.{forget_program}
use Rattle.pfc_grammar.specs.Outcomes.{IsTreeOf}
use Rattle.pfc_types.specs.rules.Whole.{first_fault}
use Rattle.pfc_code.specs.Printing.{code_text}
use Rattle.pfc_sched.specs.declared.picking.Policy.{Policy}
use Rattle.pfc_state.specs.declared.endings.Ending.{Ending}
use Rattle.pfc_state.specs.declared.endings.Ending.TheVariants.{Finished, Fault, Deadlock, Limit, Script, SinkFailed, Memory}
use Rattle.pfc_state.specs.declared.endings.ScriptWhy.TheVariants.{NotANumber}
use Rattle.pfc_report.specs.Listings.{listing_text}
use Rattle.pfc_report.specs.Refusals.{refusal_line_text, words_refused_text}
use Rattle.pfc_report.specs.Reports.{report_text}
use Rattle.pfc_outcome.specs.Loading.{Lack, Names, first_lack, long, missing, names_of}
use Rattle.pfc_outcome.specs.Making.{made_text}
use Rattle.pfc_outcome.specs.Meanings.{Meaning, Run}
use Rattle.pfc_outcome.specs.Options.{Asked, Source, from_file, made, options_of}
use Rattle.pfc_outcome.specs.Requests.{Request, Settings, policy_of, request_of, settings_of}

-- the program that ran, and how
pub record Ran : Type 0 where
  pub tree : ProgramTree
  pub settings : Settings

-- a status, the bytes that are written, and the run that ended so, where there was one
pub record Outcome : Type 0 where
  pub status : ℕ
  pub bytes : List ℕ
  pub ran : Option Ran

abbrev pub without_run : ℕ → List ℕ → Outcome
without_run s bs = record { status = s; bytes = bs; ran = None }

-- the same behind bytes that are written first
abbrev pub behind : List ℕ → Outcome → Outcome
behind heading outcome = record { status = outcome.status; bytes = heading ++ outcome.bytes; ran = outcome.ran }

-- ## A program that is run

-- the status of an ending; the last two are no endings of a source text's run
abbrev pub status_of : Ending → ℕ
status_of Finished = 0
status_of (Fault process line fault) = 3
status_of Deadlock = 4
status_of (Limit actions) = 5
status_of (Script item why) = 10
status_of SinkFailed = 7
status_of Memory = 8

-- the report of a run's end
abbrev pub report_of : Meaning → ProgramTree → Run → List ℕ
report_of m t run = report_text run.ending run.standings (m.image t) (is_open_line run.output)

-- a run: its output, and then the report
abbrev pub ran_with : Meaning → ProgramTree → Settings → Outcome
ran_with m t settings = record {
  status = status_of (m.run t settings).ending;
  bytes = (m.run t settings).output ++ report_of m t (m.run t settings);
  ran = Some (record { tree = t; settings = settings });
}

-- a script whose item of this number is no number: nothing has run
abbrev pub stopped_at : Meaning → ProgramTree → ℕ → Outcome
stopped_at m t item = without_run 10 (report_text (Script item NotANumber) [] (m.image t) false)

-- the run under a policy, or a script that is no list of numbers
abbrev pub run_under : Meaning → ProgramTree → Request → Result Policy ℕ → Outcome
run_under m t request (Ok policy) = ran_with m t (settings_of request policy)
run_under m t request (Err item) = stopped_at m t item

-- the code text, where it is asked for
abbrev pub code_written : Meaning → ProgramTree → Request → List ℕ
code_written m t request = if request.code then code_text (m.image t) else []

-- ## A tree

-- a text is refused: the line with the code and the place
abbrev pub refused : Refusal → Outcome
refused r = without_run 1 (refusal_line_text r)

-- the most instructions of a program
abbrev pub most_instructions : ℕ
most_instructions = 200000

abbrev pub instruction_count : Meaning → ProgramTree → ℕ
instruction_count m t = length (m.image t).code

-- the refusal of a program with more instructions
abbrev pub too_large : Refusal
too_large = record { code = 501; place = record { line = 1; column = 1 } }

-- A tree is refused with the first static rule that is broken in it, if there is one. Else it is refused where its program is too large.
-- Any other is run, behind its code text where that is asked for.
pub data IsOutcomeOfTree (m : Meaning) (tree : ProgramTree) (request : Request) (outcome : Outcome) : Type 0 where
  static_fault : (fault : Refusal) → first_fault tree ≡ Some fault → outcome ≡ refused fault → IsOutcomeOfTree m tree request outcome
  large : first_fault tree ≡ None → most_instructions < instruction_count m tree → outcome ≡ refused too_large → IsOutcomeOfTree m tree request outcome
  run : first_fault tree ≡ None → instruction_count m tree ≤ most_instructions
      → outcome ≡ behind (code_written m tree request) (run_under m tree request (policy_of request)) → IsOutcomeOfTree m tree request outcome

-- ## A text

-- the place of token i, or the end for the number of the tokens
abbrev pub place_at : List Token → Place → ℕ → Place
place_at ts end i = get_or (map (λ t. t.place) ts) i end

-- the refusal of the token i, or of the end
abbrev pub syntax_refusal : List Token → Place → ℕ → ℕ → Refusal
syntax_refusal ts end code i = record { code = code; place = place_at ts end i }

-- no token of the tree stands too deep
abbrev pub IsLevel : ProgramTree → Type 0
IsLevel tree = All (λ d. d ≤ most_depth) (depths_of (forget_program tree))

-- Tokens that are no program, or a too deep one, are refused where they first go wrong. The outcome of any others is that of the tree that
-- they write.
pub data IsOutcomeOfTokens (m : Meaning) (ts : List Token) (end : Place) (request : Request) (outcome : Outcome) : Type 0 where
  syntax_fault : (code i : ℕ) → IsSyntaxFault (symbols ts) code i → outcome ≡ refused (syntax_refusal ts end code i)
      → IsOutcomeOfTokens m ts end request outcome
  no_fault : (tree : ProgramTree) → IsTreeOf ts tree → IsLevel tree → IsOutcomeOfTree m tree request outcome
      → IsOutcomeOfTokens m ts end request outcome

-- A text that is refused by its cutting is refused with that code and place.
abbrev pub IsOutcomeOfCutting : Meaning → Cutting → Request → Outcome → Type 0
IsOutcomeOfCutting m (refusal r) request outcome = outcome ≡ refused r
IsOutcomeOfCutting m (tokens ts end) request outcome = IsOutcomeOfTokens m ts end request outcome

-- what a text comes to by itself
pub record IsUnlisted (m : Meaning) (text : List ℕ) (request : Request) (outcome : Outcome) : Type 0 where
  pub cutting : Cutting
  pub cut : IsCut text cutting
  pub is : IsOutcomeOfCutting m cutting request outcome

-- the listing of the text, where it is asked for
abbrev pub listing_written : Request → List ℕ → List ℕ
listing_written request text = if request.list then listing_text text else []

-- The outcome of a text: what it comes to by itself, behind the listing where that is asked for.
pub record IsOutcomeOfText (m : Meaning) (text : List ℕ) (request : Request) (outcome : Outcome) : Type 0 where
  pub unlisted : Outcome
  pub is : IsUnlisted m text request unlisted
  pub listed : outcome ≡ behind (listing_written request text) unlisted

-- ## Options and files

-- the name of the file of a text
abbrev pub file_of : Source → Option (List ℕ)
file_of (from_file name) = Some name
file_of (made size) = None

-- the names of the files that are asked for
abbrev pub names_by : Asked → Names
names_by asked = names_of (file_of asked.source) asked.input asked.script

-- the bytes of a file that is asked for; none where there is no name
abbrev pub given_by : List File → Option (List ℕ) → List ℕ
given_by files None = []
given_by files (Some name) = unwrap_or (bytes_of name files) []

-- the text that is asked for
abbrev pub text_by : List File → Source → List ℕ
text_by files (from_file name) = given_by files (Some name)
text_by files (made size) = made_text size

-- what is asked for of it
abbrev pub request_by : List File → Asked → Request
request_by files asked = request_of asked (given_by files asked.input) (given_by files asked.script)

-- where something is wrong with the files, the first of it decides: status 6 for one that is not held, 9 for one that is too long
abbrev pub IsOutcomeOfFiles : Meaning → Option Lack → List File → Asked → Outcome → Type 0
IsOutcomeOfFiles m (Some missing) files asked outcome = outcome ≡ without_run 6 []
IsOutcomeOfFiles m (Some long) files asked outcome = outcome ≡ without_run 9 []
IsOutcomeOfFiles m None files asked outcome = IsOutcomeOfText m (text_by files asked.source) (request_by files asked) outcome

-- The outcome of options and files. It does not read the words, so each program that runs a text shares it.
abbrev pub IsOutcomeOf : Meaning → Asked → List File → Outcome → Type 0
IsOutcomeOf m asked files outcome = IsOutcomeOfFiles m (first_lack files (names_by asked)) files asked outcome

-- the outcome of what the words ask for: status 2 where they ask for nothing
abbrev pub IsOutcomeBy : Meaning → Option Asked → List File → Outcome → Type 0
IsOutcomeBy m None files outcome = outcome ≡ without_run 2 words_refused_text
IsOutcomeBy m (Some asked) files outcome = IsOutcomeOf m asked files outcome

-- The outcome of the words of `pfc` and the files.
abbrev pub IsOutcome : Meaning → List (List ℕ) → List File → Outcome → Type 0
IsOutcome m words files outcome = IsOutcomeBy m (options_of words) files outcome
