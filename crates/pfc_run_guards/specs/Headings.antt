-- The blocks and the modules of a program stand as their headings say.
use Rattle.std.specs.Prelude.{ℕ, ◌<◌, ◌≡◌, ◌≢◌, true, length, Some, None, is_some}
use Rattle.pfc_tree.specs.Symbols.{Text}
use Rattle.pfc_tree.specs.trees.Parts.{ProgramTree}
use Rattle.pfc_types.specs.Scopes.{meaning_in, scope_at}
use Rattle.pfc_types.specs.Blocks.{sub_at, module_at, process_at}
use Rattle.pfc_types.specs.declared.heads.SubSort.TheVariants.{Guarded}
use Rattle.pfc_types.specs.declared.scope.Meaning.TheVariants.{Sub}
use Rattle.pfc_types.specs.rules.Whole.{finished}
use Rattle.pfc_semantics.specs.Programs.{block_at, program_of}
use Rattle.pfc_translation.specs.Sites.{module_of}

-- A sub's block has a guard where the sub is guarded, and stands in the scope in which the sub's name is declared; that of a process has none; and each module
-- is found by its scope. So it is in every lawful program in which no static rule is broken: it is told of all declarations of a text, one behind the other.
pub record HeadingsStand (t : ProgramTree) : Type 0 where
  pub unguarded : (n : ℕ) → n < length (finished t).blocks.subs → (sub_at (finished t).blocks n).sort ≢ Guarded
      → (block_at (program_of t) (sub_at (finished t).blocks n).scope).guard ≡ None
  pub guarded : (n : ℕ) → n < length (finished t).blocks.subs → (sub_at (finished t).blocks n).sort ≡ Guarded
      → is_some (block_at (program_of t) (sub_at (finished t).blocks n).scope).guard ≡ true
  pub declared : (n i : ℕ) (x : Text) → meaning_in (scope_at (finished t).blocks.scopes i) x ≡ Some (Sub n)
      → (block_at (program_of t) (sub_at (finished t).blocks n).scope).outer ≡ i
  pub processes : (n : ℕ) → n < length (finished t).blocks.processes
      → (block_at (program_of t) (process_at (finished t).blocks n).scope).guard ≡ None
  pub modules : (n : ℕ) → n < length (finished t).blocks.modules → module_of (finished t).blocks (module_at (finished t).blocks n).scope ≡ Some n
