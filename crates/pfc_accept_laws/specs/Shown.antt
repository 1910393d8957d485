-- What processes show while they wait, and where it comes from.
use Rattle.std.specs.Prelude.{ℕ, ◌≡◌, ◌⊎◌, pos, true, List, [], ◌∷◌, get_or, Some}
use Rattle.std.specs.List.{slice_get}
use Rattle.pfc_types.specs.Blocks.{entry_at}
use Rattle.pfc_types.specs.declared.heads.Formal.{Formal}
use Rattle.pfc_state.specs.Stands.{Waits}
use Rattle.pfc_state.specs.declared.waits.Why.TheVariants.{Call}
use Rattle.pfc_world.specs.Tables.{at}
use Rattle.pfc_semantics.specs.Values.{Value, Location, ordinal, points}
use Rattle.pfc_semantics.specs.Displays.{Spot}
use Rattle.pfc_semantics.specs.Programs.{Program}
use Rattle.pfc_semantics.specs.Processes.{declaration_of}
use Rattle.pfc_semantics.specs.Remainders.{Context, Argument, by_reference, Open, Selecting, Remainder, to_entry, calls, meets, decides}
use Rattle.pfc_semantics.specs.Configurations.{Config, asking, offering, activity_of, number_for, all_passed}
use Rattle.pfc_semantics.specs.Steps.{next_of}

-- ## Alternatives that are offered

-- the process shows these alternatives, with what is left behind them
abbrev pub ShowsOpen : Program → Config → ℕ → Context → List Open → Remainder → Type 0
ShowsOpen g c q x os k = (activity_of g c q).hand ≡ offering x os k

-- it is about to offer them: to communicate, or to decide a select
abbrev pub IsToOffer : Program → Config → ℕ → Context → List Open → Remainder → Type 0
IsToOffer g c p x os k =
    ((o : Open) × (os ≡ o ∷ []) × (next_of g c p ≡ meets x o k)) ⊎ ((s : Selecting) × (os ≡ s.offered) × (next_of g c p ≡ decides x s k))

-- ## Arguments of calls of entries

-- the process waits for the entry of the owner, and shows these arguments
abbrev pub ShowsArguments : Program → Config → ℕ → ℕ → ℕ → ℕ → List Value → Type 0
ShowsArguments g c q owner entry ticket values = ((activity_of g c q).hand ≡ asking values) × (at c.table.rows q ≡ Waits (Call owner entry) ticket [])

-- it is about to call that entry with them
pub record IsToAsk (g : Program) (c : Config) (p owner entry : ℕ) (values : List Value) : Type 0 where
  pub context : Context
  pub spot : Spot
  pub behind : Remainder
  pub given : List Argument
  pub next : next_of g c p ≡ calls context (to_entry spot entry behind) given
  pub owned : owner ≡ number_for g c p spot
  pub passed : values ≡ all_passed g c p given

-- ## References

-- each value that an entry of process q takes by reference is a location
abbrev pub ArePassed : Program → ℕ → ℕ → List Value → Type 0
ArePassed g q entry values = (k : ℕ) (f : Formal) → slice_get (entry_at g.state.blocks (declaration_of g q) entry) k ≡ Some f → f.reference ≡ true
    → (l : Location) × (get_or values k (ordinal (pos 0)) ≡ points l)

-- so it is of all who wait for an entry
abbrev pub AllPass : Program → Config → Type 0
AllPass g c = (q owner entry ticket : ℕ) (values : List Value) → (activity_of g c q).hand ≡ asking values
    → at c.table.rows q ≡ Waits (Call owner entry) ticket [] → ArePassed g owner entry values

-- and of a process that is about to call one
abbrev pub Passes : Program → Config → ℕ → Type 0
Passes g c p = (x : Context) (s : Spot) (entry : ℕ) (k : Remainder) (given : List Argument) → next_of g c p ≡ calls x (to_entry s entry k) given
    → ArePassed g (number_for g c p s) entry (all_passed g c p given)

-- For what such an entry takes by reference a variable is given: so arguments are made, where they are made for its parameters.
abbrev pub TakesVariables : Program → ℕ → ℕ → List Argument → Type 0
TakesVariables g q entry given = (k : ℕ) (f : Formal) → slice_get (entry_at g.state.blocks (declaration_of g q) entry) k ≡ Some f → f.reference ≡ true
    → (v : Spot) × (slice_get given k ≡ Some (by_reference v))
