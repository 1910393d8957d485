-- What is told of the accepts of a program, and of a run.
use Rattle.std.specs.Prelude.{ℕ, ◌≡◌, ◌≢◌, ◌<◌, pos, true, List, [], ◌∷◌, length, get_or, Some, None}
use Rattle.std.specs.List.{slice_get}
use Rattle.pfc_tree.specs.trees.Parts.{ProgramTree}
use Rattle.pfc_types.specs.Blocks.{process_at}
use Rattle.pfc_types.specs.rules.Declarations.{name_cells}
use Rattle.pfc_types.specs.declared.scope.Meaning.{Meaning}
use Rattle.pfc_types.specs.declared.scope.Meaning.TheVariants.{Variable}
use Rattle.pfc_types.specs.declared.types.TypeId.{TypeId}
use Rattle.pfc_state.specs.Stands.{Waits}
use Rattle.pfc_state.specs.declared.waits.Why.TheVariants.{Call}
use Rattle.pfc_world.specs.Tables.{at}
use Rattle.pfc_semantics.specs.Values.{Value, Location, ordinal, points}
use Rattle.pfc_semantics.specs.Layouts.{is_laid, sub_with}
use Rattle.pfc_semantics.specs.Processes.{declaration_of, process_block}
use Rattle.pfc_semantics.specs.Programs.{Block, Program, block_at, program_of}
use Rattle.pfc_semantics.specs.Configurations.{Activation, Config, asking, activity_of}
use Rattle.pfc_translation.specs.Sites.{is_mains, is_accept}
use Rattle.pfc_translation.specs.Images.{image_of}
use Rattle.pfc_call_laws.specs.Calls.{HasNoObjects}
use Rattle.pfc_meeting_laws.specs.Meetings.{display_of}
use Rattle.pfc_representation.specs.Levels.{Facts, program_in}
use Rattle.pfc_representation.specs.Hands.{laid_parameters, entry_formals}

-- ## Of a program

-- The block of the n-th declaration of a process: it is known by its scope, which is that of no sub and of no body of main's. It is declared in one of main's
-- scopes, none of its variables is an object, and each takes a cell. The scopes of its accepts are those of no sub.
pub record IsProcessBlock (g : Program) (n : ℕ) (b : Block) : Type 0 where
  pub scope : b.scope ≡ (process_at g.state.blocks n).scope
  pub no_sub : sub_with g.state.blocks.subs b.scope ≡ None
  pub no_body : (j : ℕ) (c : Block) → slice_get (g.main ∷ g.modules) j ≡ Some c → c.scope ≢ b.scope
  pub outer : is_mains g.state.blocks b.outer ≡ true
  pub objects : HasNoObjects g b
  pub sized : (k : ℕ) (m : Meaning) → slice_get b.layout k ≡ Some m → is_laid m ≡ true → 0 < name_cells g.state.forms m
  pub accepts : (i : ℕ) → is_accept b i ≡ true → sub_with g.state.blocks.subs i ≡ None

-- Each process of a program that breaks no rule has such a block, and is told by its scope; and each number of a process is that of a declaration.
pub record HasProcesses (t : ProgramTree) : Type 0 where
  pub blocks : (n : ℕ) → n < length (program_of t).state.blocks.processes
      → IsProcessBlock (program_of t) n (block_at (program_of t) (process_at (program_of t).state.blocks n).scope)
  pub once : (n k : ℕ) → n < length (program_of t).state.blocks.processes → k < length (program_of t).state.blocks.processes
      → (process_at (program_of t).state.blocks n).scope ≡ (process_at (program_of t).state.blocks k).scope → n ≡ k
  pub declared : (q : ℕ) → 0 < q → q < length (image_of t).processes
      → declaration_of (program_of t) q < length (program_of t).state.blocks.processes

-- ## Of a run

-- As long as a program runs, a process in its first activation has the display with which it began; and what a caller that waits passes by reference is a
-- location.
pub record KeepsAccepts (facts : Facts) (c : Config) : Type 0 where
  pub displays : (q : ℕ) (a : Activation) → 0 < q → (activity_of (program_in facts) c q).activations ≡ a ∷ []
      → (activity_of (program_in facts) c q).display ≡ display_of (program_in facts) a.number (process_block (program_in facts) q)
  pub asked : (q owner entry ticket : ℕ) (values : List Value) → (activity_of (program_in facts) c q).hand ≡ asking values
      → at c.table.rows q ≡ Waits (Call owner entry) ticket [] → (k : ℕ) (t : TypeId)
      → slice_get (laid_parameters (entry_formals (program_in facts) owner entry)) k ≡ Some (Variable t true)
      → (l : Location) × (get_or values k (ordinal (pos 0)) ≡ points l)
