-- What statuses and bytes say of outcomes.
use Rattle.std.specs.Prelude.{◌≡◌, ℕ, ◌⊎◌, List, Option, IsSomeAnd, Result, Ok, Err}
use Rattle.std.specs.Io.KnownBytes.{Appends}
use Rattle.pfc_io.specs.Files.{File}
use Rattle.pfc_io.specs.Writes.{AppendsFront}
use Rattle.pfc_outcome.specs.Loading.{Lack, Lacks}
use Rattle.pfc_outcome.specs.Outcomes.{Outcome, names_by}
use Rattle.pfc_outcome.specs.WalkOptions.{walk_options_of}
use Rattle.pfc_walk.specs.declared.replies.Stop.{Stop}
use Rattle.pfc_walk.specs.declared.replies.Stop.TheVariants.{WriteFailed, Memory}

-- the status is the outcome's, and the outcome's bytes were appended
pub record Gives (outcome : Outcome) (answer : ℕ) (old new : Option (List ℕ)) : Type 0 where
  pub status : answer ≡ outcome.status
  pub written : Appends old new outcome.bytes

-- one of these outcomes is given
abbrev pub GivesOne : (Outcome → Type 0) → ℕ → Option (List ℕ) → Option (List ℕ) → Type 0
GivesOne is status old new = (outcome : Outcome) × is outcome × Gives outcome status old new

-- a front of the bytes of one of these outcomes was appended
abbrev pub GivesFront : (Outcome → Type 0) → Option (List ℕ) → Option (List ℕ) → Type 0
GivesFront is old new = (outcome : Outcome) × is outcome × AppendsFront old new outcome.bytes

-- a front of the bytes of each of these outcomes was appended
abbrev pub GivesFrontOfAll : (Outcome → Type 0) → Option (List ℕ) → Option (List ℕ) → Type 0
GivesFrontOfAll is old new = (outcome : Outcome) → is outcome → AppendsFront old new outcome.bytes

-- the outcome is given, or a front of its bytes was appended
abbrev pub IsWritten : Outcome → Result ℕ Stop → Option (List ℕ) → Option (List ℕ) → Type 0
IsWritten outcome (Ok status) old new = Gives outcome status old new
IsWritten outcome (Err stop) old new = AppendsFront old new outcome.bytes

-- one of these outcomes is given; or the sink took no more, behind a front of one's bytes; or memory was wanting
abbrev pub Replies : (Outcome → Type 0) → Result ℕ Stop → Option (List ℕ) → Option (List ℕ) → Type 0
Replies is (Ok status) old new = GivesOne is status old new
Replies is (Err WriteFailed) old new = GivesFront is old new
Replies is (Err Memory) old new = GivesFrontOfAll is old new

-- the status of a call that stopped
abbrev pub stopped : Stop → ℕ
stopped WriteFailed = 7
stopped Memory = 8

abbrev pub ended : Result ℕ Stop → ℕ
ended (Ok status) = status
ended (Err stop) = stopped stop

-- ## Statuses

-- a text is refused or its script is; or a run finished, or met a fault, or nobody could go on, or it came to its limit, or its script stopped
abbrev pub IsAnswerToText : ℕ → Type 0
IsAnswerToText status = (status ≡ 0) ⊎ (status ≡ 1) ⊎ (status ≡ 3) ⊎ (status ≡ 4) ⊎ (status ≡ 5) ⊎ (status ≡ 10)

abbrev pub IsStatus : ℕ → Type 0
IsStatus status = IsAnswerToText status ⊎ (status ≡ 2) ⊎ (status ≡ 6) ⊎ (status ≡ 7) ⊎ (status ≡ 8) ⊎ (status ≡ 9)

-- the words give options, the shelf tells its files, and this is wrong with the first of those that are asked for with which something is
abbrev pub IsAskedLacking : Option (List File) → List (List ℕ) → Lack → Type 0
IsAskedLacking told words lack = IsSomeAnd (walk_options_of words) (λ asked. Lacks told (names_by asked) lack)
