-- What an action of others leaves alone of a process.
use Rattle.std.specs.Prelude.{ℕ, ◌≡◌, ◌≢◌, Bool, true, List, Some}
use Rattle.pfc_state.specs.Stands.{Is_ready}
use Rattle.pfc_world.specs.Tables.{Table, at}
use Rattle.pfc_world.specs.Holders.{holder_in}
use Rattle.pfc_semantics.specs.Store.{Store}
use Rattle.pfc_stacks.specs.Stacks.{Stack, Stacks, stack_of}
use Rattle.pfc_cells.specs.Homes.{Home, Homes}
use Rattle.pfc_cells.specs.Memory.{Entries}
use Rattle.pfc_machines.specs.declared.descriptors.Descriptor.{Descriptor}
use Rattle.pfc_machines.specs.Quiet.{tried_in}
use Rattle.pfc_views.specs.Keeping.{IsLike}
use Rattle.pfc_representation.specs.Levels.{Facts, program_in, is_met_by, MayKeep}
use Rattle.pfc_representation.specs.Holding.{Holders}

-- The process is where it was, with its operands and its room; what its cells hold the store says.
pub record IsSameStack (s s' : Stack) : Type 0 where
  pub at : s'.at ≡ s.at
  pub base : s'.base ≡ s.base
  pub operands : s'.operands ≡ s.operands
  pub room : s'.room ≡ s.room
  pub spare : s'.spare ≡ s.spare
  pub looks_from : s'.looks_from ≡ s.looks_from

-- process r is in a rendezvous with q, or with one that is in a rendezvous with q, and so on
pub data IsLender (table : Table) : ℕ → ℕ → Type 0 where
  meets : (q r : ℕ) → is_met_by (at table.rows r) q → IsLender table q r
  meets_lender : (q s r : ℕ) → is_met_by (at table.rows s) q → IsLender table s r → IsLender table q r

-- Before and after: the activations that process q may keep live on, and their reference parameters stand for what they stood for; q is where it was, with
-- the same activations and standing; and so are those who lend to it.
pub record IsUntouched (facts : Facts) (q : ℕ) (homes homes' : Homes) (entries entries' : Entries) (store store' : Store) (stacks stacks' : Stacks)
    (table table' : Table) : Type 0 where
  pub like : (keeps : ℕ → Bool) → ((a : ℕ) → keeps a ≡ true → (lenders : List ℕ) × MayKeep table entries q lenders (entries q) a)
      → IsLike (program_in facts) keeps homes homes' entries entries' store store'
  pub lenders : (r : ℕ) → IsLender table q r → (at table'.rows r ≡ at table.rows r) × (entries' r ≡ entries r)
  pub stack : IsSameStack (stack_of stacks q) (stack_of stacks' q)
  pub entries_same : entries' q ≡ entries q
  pub row : at table'.rows q ≡ at table.rows q

-- what it holds it holds still
pub record HoldsStill (q : ℕ) (h h' : Holders) : Type 0 where
  pub owners : h'.owners ≡ h.owners
  pub monitors : (m : ℕ) → holder_in h.monitors m ≡ Some q → holder_in h'.monitors m ≡ Some q
  pub resources : (r : ℕ) → holder_in h.resources r ≡ Some q → holder_in h'.resources r ≡ Some q

-- It is left alone where neither it is touched, nor one whose guard it tries, and nothing is taken from it.
pub record IsLeftAlone (facts : Facts) (q : ℕ) (d : Descriptor) (homes homes' : Homes) (entries entries' : Entries) (store store' : Store)
    (stacks stacks' : Stacks)
    (table table' : Table) (h h' : Holders) : Type 0 where
  pub at_home : (a : ℕ) (home : Home) → homes a ≡ Some home → homes' a ≡ Some home
  pub untouched : IsUntouched facts q homes homes' entries entries' store store' stacks stacks' table table'
  pub tried : (r : ℕ) → tried_in d.scan ≡ Some r → IsUntouched facts r homes homes' entries entries' store store' stacks stacks' table table'
  pub holds : HoldsStill q h h'

-- ## Changes of one process

-- Only process p goes on, which acts: all others stand where they stood. Cells of any process may change.
pub record OnlyMoves (p : ℕ) (stacks stacks' : Stacks) (table table' : Table) : Type 0 where
  pub acting : at table.rows p ≡ Is_ready
  pub others : (q : ℕ) → q ≢ p → IsSameStack (stack_of stacks q) (stack_of stacks' q)
  pub rows : (q : ℕ) → q ≢ p → at table'.rows q ≡ at table.rows q
