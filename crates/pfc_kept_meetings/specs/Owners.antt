-- What is told of a program and of a run, by which entries and their owners are known.
use Rattle.std.specs.Prelude.{ℕ, ◌≡◌, ◌<◌, pos, length, get_or, Some}
use Rattle.std.specs.List.{slice_get}
use Rattle.pfc_tree.specs.trees.Parts.{ProgramTree}
use Rattle.pfc_types.specs.Blocks.{entry_at}
use Rattle.pfc_types.specs.declared.scope.Meaning.TheVariants.{Process}
use Rattle.pfc_semantics.specs.Values.{ordinal}
use Rattle.pfc_semantics.specs.Store.{values_in}
use Rattle.pfc_semantics.specs.Programs.{block_at, program_of}
use Rattle.pfc_semantics.specs.Processes.{declaration_of}
use Rattle.pfc_semantics.specs.Configurations.{Config}
use Rattle.pfc_call_laws.specs.Blocks.{AreLaidAs}
use Rattle.pfc_representation.specs.Levels.{Facts, program_in}
use Rattle.pfc_representation.specs.Hands.{laid_parameters}

-- Each parameter of an entry has a type: so it is in a program that breaks no rule.
pub record HasTypedEntries (t : ProgramTree) : Type 0 where
  pub typed : (n entry : ℕ) → n < length (program_of t).state.blocks.processes
      → AreLaidAs (entry_at (program_of t).state.blocks n entry) (laid_parameters (entry_at (program_of t).state.blocks n entry))

-- A single process has, as long as a program runs, the number of a process of its declaration: main's variables get their objects before the first action, and
-- no object is written.
pub record HasSingles (facts : Facts) (c : Config) : Type 0 where
  pub numbers : (k n : ℕ) → slice_get (block_at (program_in facts) 0).layout k ≡ Some (Process n)
      → (q : ℕ) × (get_or (values_in c.store 0) k (ordinal (pos 0)) ≡ ordinal (pos q)) × (q < length c.activities)
      × (declaration_of (program_in facts) q ≡ n)
