-- How the subs, the processes and the modules of a program stand.
use Rattle.std.specs.Prelude.{ℕ, ◌≡◌, ◌≢◌, true, Some, None, is_some}
use Rattle.std.specs.List.{AllByRecursion}
use Rattle.pfc_tree.specs.Symbols.{Text}
use Rattle.pfc_types.specs.Scopes.{meaning_in, scope_at}
use Rattle.pfc_types.specs.Blocks.{Blocks, sub_at, module_at, process_at}
use Rattle.pfc_types.specs.declared.heads.SubSort.TheVariants.{Guarded}
use Rattle.pfc_types.specs.declared.scope.Meaning.TheVariants.{Sub}
use Rattle.pfc_semantics.specs.Programs.{Block, Guard, Program, block_at}
use Rattle.pfc_translation.specs.Sites.{module_of}

-- The block of a sub has a guard where the sub is guarded, and stands in the scope in which the sub's name is declared.
pub record SubsStand (g : Program) (b : Blocks) : Type 0 where
  pub unguarded : (n : ℕ) → (sub_at b n).sort ≢ Guarded → (block_at g (sub_at b n).scope).guard ≡ None
  pub guarded : (n : ℕ) → (sub_at b n).sort ≡ Guarded → is_some (block_at g (sub_at b n).scope).guard ≡ true
  pub declared : (n i : ℕ) (x : Text) → meaning_in (scope_at b.scopes i) x ≡ Some (Sub n) → (block_at g (sub_at b n).scope).outer ≡ i

-- Each module is found by its scope, which is not the program's nor that of a body. A guarded procedure stands in a resource, and processes have no guards.
pub record ModulesStand (g : Program) (b : Blocks) : Type 0 where
  pub modules : (n m : ℕ) → module_of b (module_at b n).scope ≡ Some m → m ≡ n
  pub resources : (n : ℕ) → (module_at b n).resource ≡ true → module_of b (module_at b n).scope ≡ Some n
  pub guarded : (scope : ℕ) (guard : Guard) → (block_at g scope).guard ≡ Some guard
      → (m : ℕ) × (module_of b (block_at g scope).outer ≡ Some m) × ((module_at b m).resource ≡ true)
  pub program_scope : module_of b 0 ≡ None
  pub bodies : AllByRecursion (λ (x : Block). module_of b x.scope ≡ None) g.blocks
  pub processes : (n : ℕ) → (block_at g (process_at b n).scope).guard ≡ None
