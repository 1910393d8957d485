-- What is told, of a run, of the accepts that a select offers.
use Rattle.std.specs.Prelude.{ℕ, ◌≡◌, List, Some}
use Rattle.std.specs.List.{slice_get}
use Rattle.pfc_semantics.specs.Remainders.{Context, Accepting, Open, to_accept}
use Rattle.pfc_semantics.specs.Configurations.{Config}
use Rattle.pfc_representation.specs.Levels.{Facts}
use Rattle.pfc_kept_meetings.specs.Waiting.{StandsWithin}

-- Each of them stands where all that is in view was declared before its own parameters: so it is of every accept that comes, as long as a program runs.
abbrev pub StandWithin : Facts → Config → ℕ → Context → List Open → Type 0
StandWithin facts c p x os = (n : ℕ) (o : Open) (a : Accepting) → slice_get os n ≡ Some o → o.offer ≡ to_accept a → StandsWithin facts c p x a
