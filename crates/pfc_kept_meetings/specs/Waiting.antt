-- What is told, of a run, of where accepts stand.
use Rattle.std.specs.Prelude.{ℕ, ◌≡◌, ◌<◌, true, List, [], ◌∷◌, Some}
use Rattle.std.specs.List.{slice_get}
use Rattle.pfc_semantics.specs.Processes.{process_block}
use Rattle.pfc_semantics.specs.Remainders.{Context, Accepting, Open, Remainder, to_accept}
use Rattle.pfc_semantics.specs.Configurations.{Activation, Config, offering, activity_of}
use Rattle.pfc_translation.specs.Sites.{is_accept}
use Rattle.pfc_accept_laws.specs.Places.{IsBefore}
use Rattle.pfc_representation.specs.Levels.{Facts, program_in}

-- a process, which is not main, in its first activation
abbrev pub IsInFirst : Facts → Config → ℕ → Type 0
IsInFirst facts c q = (0 < q) × ((a : Activation) × ((activity_of (program_in facts) c q).activations ≡ a ∷ []))

-- Only there an accept comes, or does a process wait at one. It is one of the process's block, and all names in view there are of scopes before its own: so it
-- is none of those that are open, whose parameters are in view.
abbrev pub StandsWithin : Facts → Config → ℕ → Context → Accepting → Type 0
StandsWithin facts c q x a = IsInFirst facts c q → (is_accept (process_block (program_in facts) q) a.scope ≡ true) × IsBefore a.scope x.env

-- So it is of all that are offered, as long as a program runs.
pub record KeepsOffers (facts : Facts) (c : Config) : Type 0 where
  pub within : (q : ℕ) (x : Context) (os : List Open) (k : Remainder) (n : ℕ) (o : Open) (a : Accepting)
      → (activity_of (program_in facts) c q).hand ≡ offering x os k → slice_get os n ≡ Some o → o.offer ≡ to_accept a → StandsWithin facts c q x a
