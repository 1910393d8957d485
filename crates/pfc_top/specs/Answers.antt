-- What answers say of outcomes.
use Rattle.std.specs.Prelude.{◌≡◌, ℕ, ◌⊎◌, List, Option, Some, None, IsSomeAnd, Result, Ok, Err}
use Rattle.std.specs.Io.KnownBytes.{Appends}
use Rattle.pfc_io.specs.Files.{File}
use Rattle.pfc_io.specs.Writes.{AppendsFront}
use Rattle.pfc_sessions.specs.declared.session.Session.{Session}
use Rattle.pfc_outcome.specs.Loading.{Lack, Lacks}
use Rattle.pfc_outcome.specs.Options.{options_of}
use Rattle.pfc_outcome.specs.Outcomes.{Outcome, Ran, names_by}
use Rattle.pfc_top.specs.Running.{IsAtEnd}
use Rattle.pfc_top.specs.declared.replies.Answer.{Answer}
use Rattle.pfc_top.specs.declared.replies.Stop.{Stop}
use Rattle.pfc_top.specs.declared.replies.Stop.TheVariants.{WriteFailed, Memory}

-- the session stands for the end of what ran; where nothing ran there is none
abbrev pub IsSessionOf : Option Ran → Option Session → Type 0
IsSessionOf None None = Unit {0}
IsSessionOf None (Some session) = ⊥
IsSessionOf (Some ran) None = ⊥
IsSessionOf (Some ran) (Some session) = IsAtEnd ran.tree ran.settings session

-- the answer has the outcome's status and the session of its run, and the outcome's bytes were appended
pub record Gives (outcome : Outcome) (answer : Answer) (old new : Option (List ℕ)) : Type 0 where
  pub status : answer.status ≡ outcome.status
  pub session : IsSessionOf outcome.ran answer.session
  pub written : Appends old new outcome.bytes

-- the answer gives one of these outcomes
abbrev pub GivesOne : (Outcome → Type 0) → Answer → Option (List ℕ) → Option (List ℕ) → Type 0
GivesOne is answer old new = (outcome : Outcome) × is outcome × Gives outcome answer old new

-- a front of the bytes of one of these outcomes was appended
abbrev pub GivesFront : (Outcome → Type 0) → Option (List ℕ) → Option (List ℕ) → Type 0
GivesFront is old new = (outcome : Outcome) × is outcome × AppendsFront old new outcome.bytes

-- a front of the bytes of each of these outcomes was appended
abbrev pub GivesFrontOfAll : (Outcome → Type 0) → Option (List ℕ) → Option (List ℕ) → Type 0
GivesFrontOfAll is old new = (outcome : Outcome) → is outcome → AppendsFront old new outcome.bytes

-- the outcome is answered, or a front of its bytes was appended
abbrev pub IsWritten : Outcome → Result Answer Stop → Option (List ℕ) → Option (List ℕ) → Type 0
IsWritten outcome (Ok answer) old new = Gives outcome answer old new
IsWritten outcome (Err stop) old new = AppendsFront old new outcome.bytes

-- one of these outcomes is answered; or the sink took no more, behind a front of one's bytes; or memory was wanting
abbrev pub Replies : (Outcome → Type 0) → Result Answer Stop → Option (List ℕ) → Option (List ℕ) → Type 0
Replies is (Ok answer) old new = GivesOne is answer old new
Replies is (Err WriteFailed) old new = GivesFront is old new
Replies is (Err Memory) old new = GivesFrontOfAll is old new

-- the answer to a call that stopped
abbrev pub stopped : Stop → Answer
stopped WriteFailed = record { status = 7; session = None }
stopped Memory = record { status = 8; session = None }

abbrev pub ended : Result Answer Stop → Answer
ended (Ok answer) = answer
ended (Err stop) = stopped stop

-- ## Statuses

-- finished, fault, deadlock, limit, script
abbrev pub IsRunStatus : ℕ → Type 0
IsRunStatus status = (status ≡ 0) ⊎ (status ≡ 3) ⊎ (status ≡ 4) ⊎ (status ≡ 5) ⊎ (status ≡ 10)

-- an answer to a text: with a session the status is that of a run; without one the text is refused, or the script is no list of numbers
abbrev pub IsAnswerToText : ℕ → Option Session → Type 0
IsAnswerToText status (Some session) = IsRunStatus status
IsAnswerToText status None = (status ≡ 1) ⊎ (status ≡ 10)

-- every answer: with a session the status is that of a run; without one it is any but those of a run's ending
abbrev pub IsSound : ℕ → Option Session → Type 0
IsSound status (Some session) = IsRunStatus status
IsSound status None = (status ≡ 1) ⊎ (status ≡ 2) ⊎ (status ≡ 6) ⊎ (status ≡ 7) ⊎ (status ≡ 8) ⊎ (status ≡ 9) ⊎ (status ≡ 10)

-- the words give options, the shelf tells its files, and this is wrong with the first of those that are asked for with which something is
abbrev pub IsAskedLacking : Option (List File) → List (List ℕ) → Lack → Type 0
IsAskedLacking told words lack = IsSomeAnd (options_of words) (λ asked. Lacks told (names_by asked) lack)
