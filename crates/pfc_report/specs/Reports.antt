-- The report of a run's ending.
use Rattle.std.specs.Prelude.{ℕ, ◌<◌, Bool, if◌then◌else◌, Option, Some, None, List, [], ◌∷◌, ◌++◌, length, All, codes, slice_get}
use Rattle.std.specs.List.{flat_map}
use Rattle.std.specs.Option.{option_map_or}
use Rattle.std.specs.Fmt.{decimal}
use Rattle.pfc_base.specs.Faults.{number_of, text_of}
use Rattle.pfc_code.specs.declared.images.ProcessInfo.{ProcessInfo}
use Rattle.pfc_code.specs.Images.{PlainImage}
use Rattle.pfc_state.specs.declared.endings.Ending.{Ending}
use Rattle.pfc_state.specs.declared.endings.Ending.TheVariants.{Finished, Fault, Deadlock, Limit, Script, SinkFailed, Memory}
use Rattle.pfc_state.specs.declared.endings.ScriptWhy.{ScriptWhy}
use Rattle.pfc_state.specs.declared.endings.ScriptWhy.TheVariants.{NotReady, NoProcess, Ended, NotANumber}
use Rattle.pfc_state.specs.declared.standings.State.{State}
use Rattle.pfc_state.specs.declared.standings.State.TheVariants.{Idle, Created, Ready, Waiting, Done}
use Rattle.pfc_state.specs.declared.standings.Standing.{Standing}
use Rattle.pfc_state.specs.declared.waits.Why.{Why}
use Rattle.pfc_state.specs.declared.waits.Why.TheVariants.{Coend, Semaphore, Send, Receive, Call, Meeting, Accept, Select, Enter, Condition, Resumer, Entrant}
use Rattle.pfc_state.specs.declared.waits.Why.TheVariants.{Barred, Sleep}

-- the words for the cause of a wait
abbrev pub words_of_wait : Why → List ℕ
words_of_wait Coend = codes "waiting at coend"
words_of_wait (Semaphore semaphore) = codes "waiting on a semaphore"
words_of_wait (Send channel) = codes "waiting to send"
words_of_wait (Receive channel) = codes "waiting to receive"
words_of_wait (Call owner entry) = codes "waiting for an entry"
words_of_wait (Meeting partner) = codes "in a rendezvous"
words_of_wait (Accept entry) = codes "waiting to accept"
words_of_wait (Select due terminate) = codes "waiting in a select"
words_of_wait (Enter monitor) = codes "waiting to enter a monitor"
words_of_wait (Condition condition rank) = codes "waiting on a condition"
words_of_wait (Resumer monitor) = codes "waiting after resume"
words_of_wait (Entrant resource) = codes "waiting to enter a resource"
words_of_wait (Barred resource procedure) = codes "waiting at a guard"
words_of_wait (Sleep due) = codes "sleeping"

-- the words for a standing; a process that is idle or has finished is not shown
abbrev pub words_of : State → Option (List ℕ)
words_of Idle = None
words_of Created = Some (codes "created")
words_of Ready = Some (codes "ready")
words_of (Waiting why) = Some (words_of_wait why)
words_of Done = None

-- the label of a process of the image
abbrev pub label_of : PlainImage → ℕ → List ℕ
label_of image process = option_map_or (λ (info : ProcessInfo). info.label) (slice_get image.processes process) []

-- a process as a report names it: its number and its label
abbrev pub process_text : PlainImage → ℕ → List ℕ
process_text image process = codes "process " ++ decimal process ++ codes " " ++ label_of image process

-- the end of a line that names a line of the program
abbrev pub at_line : ℕ → List ℕ
at_line line = codes " at line " ++ decimal line ++ 10 ∷ []

-- the line of a process that is shown with these words
abbrev pub shown_line : PlainImage → ℕ → List ℕ → ℕ → List ℕ
shown_line image process words line = process_text image process ++ codes ": " ++ words ++ at_line line

-- the line of a standing, none where the process is not shown
abbrev pub standing_line : PlainImage → Standing → List ℕ
standing_line image standing = option_map_or (λ words. shown_line image standing.process words standing.line) (words_of standing.state) []

-- the lines of the standings, in their order
abbrev pub standings_text : PlainImage → List Standing → List ℕ
standings_text image standings = flat_map (standing_line image) standings

-- why a script stopped
abbrev pub why_text : ScriptWhy → List ℕ
why_text (NotReady process) = codes "process " ++ decimal process ++ codes " is not ready"
why_text (NoProcess process) = codes "there is no process " ++ decimal process
why_text Ended = codes "the script has ended"
why_text NotANumber = codes "not a number"

-- the line of a script that stopped
abbrev pub script_line : ℕ → ScriptWhy → List ℕ
script_line item why = codes "-- script stopped at item " ++ decimal item ++ codes ": " ++ why_text why ++ 10 ∷ []

-- the standings after that line: none where the script was no list of numbers, since then nothing has run
abbrev pub script_standings : PlainImage → List Standing → ScriptWhy → List ℕ
script_standings image standings (NotReady process) = standings_text image standings
script_standings image standings (NoProcess process) = standings_text image standings
script_standings image standings Ended = standings_text image standings
script_standings image standings NotANumber = []

-- the lines of an ending; want of memory and a sink that takes no more have no report
abbrev pub ending_text : PlainImage → List Standing → Ending → List ℕ
ending_text image standings Finished = codes "-- finished" ++ 10 ∷ []
ending_text image standings (Fault process line fault) =
    codes "-- fault " ++ decimal (number_of fault) ++ codes ": " ++ text_of fault ++ codes " in " ++ process_text image process ++ at_line line
ending_text image standings Deadlock = codes "-- deadlock" ++ 10 ∷ [] ++ standings_text image standings
ending_text image standings (Limit actions) =
    codes "-- limit of " ++ decimal actions ++ codes " actions reached" ++ 10 ∷ [] ++ standings_text image standings
ending_text image standings (Script item why) = script_line item why ++ script_standings image standings why
ending_text image standings SinkFailed = []
ending_text image standings Memory = []

-- the report: a line end where the output left a line open, and the lines of the ending
abbrev pub report_text : Ending → List Standing → PlainImage → Bool → List ℕ
report_text ending standings image open_line = (if open_line then 10 ∷ [] else []) ++ ending_text image standings ending

-- a run with this ending is reported: memory was there, and the sink took what it was given
abbrev pub HasReport : Ending → Type 0
HasReport Finished = Unit {0}
HasReport (Fault process line fault) = Unit {0}
HasReport Deadlock = Unit {0}
HasReport (Limit actions) = Unit {0}
HasReport (Script item why) = Unit {0}
HasReport SinkFailed = ⊥
HasReport Memory = ⊥

-- the process of a fault is one of the image's
abbrev pub NamesProcess : PlainImage → Ending → Type 0
NamesProcess image (Fault process line fault) = process < length image.processes
NamesProcess image Finished = Unit {0}
NamesProcess image Deadlock = Unit {0}
NamesProcess image (Limit actions) = Unit {0}
NamesProcess image (Script item why) = Unit {0}
NamesProcess image SinkFailed = Unit {0}
NamesProcess image Memory = Unit {0}

-- so is each process of the standings
abbrev pub NameProcesses : PlainImage → List Standing → Type 0
NameProcesses image standings = All (λ (standing : Standing). standing.process < length image.processes) standings
