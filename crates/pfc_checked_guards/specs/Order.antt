-- What is named comes in the order of what may be called.
use Rattle.std.specs.Prelude.{ℕ, ◌+◌, ◌≤◌, ◌<◌, ◌≡◌, Bool, true, false, Option, Some, is_some}
use Rattle.std.specs.List.{AllByRecursion}
use Rattle.pfc_tree.specs.Symbols.{Text}
use Rattle.pfc_types.specs.Scopes.{meaning_of, meaning_in, scope_at}
use Rattle.pfc_types.specs.Blocks.{Blocks, sub_at, module_at}
use Rattle.pfc_types.specs.declared.heads.SubSort.TheVariants.{Guarded}
use Rattle.pfc_types.specs.declared.scope.Meaning.TheVariants.{Sub, Module}
use Rattle.pfc_types.specs.rules.Expressions.{Env, find}
use Rattle.pfc_types.specs.rules.Statements.{stmts_scopes}
use Rattle.pfc_semantics.specs.Objects.{module_number}
use Rattle.pfc_semantics.specs.Programs.{Block, Program, block_at}
use Rattle.pfc_semantics.specs.Configurations.{Mark, plain, of_monitor, of_resource}
use Rattle.pfc_guard_laws.specs.Tops.{Tops, Comes, Beside}

-- the scope of the block of the n-th sub
abbrev pub scope_of_sub : Program → Blocks → ℕ → ℕ
scope_of_sub g b n = (block_at g (sub_at b n).scope).scope

abbrev pub marked : Bool → ℕ → Mark
marked true r = of_resource r
marked false m = of_monitor m

-- the mark of an activation that is called from outside the n-th module
abbrev pub mark_of_module : Blocks → ℕ → Mark
mark_of_module b n = marked (module_at b n).resource (module_number b n)

-- Of the names in view: each sub may be called from the block with the scope i, and so may what each module exports.
pub record InOrder (g : Program) (tops : Option Tops) (i : ℕ) (env : Env) : Type 0 where
  pub called : (x : Text) (n : ℕ) → meaning_of (find env x) ≡ Some (Sub n) → Comes tops plain (scope_of_sub g env.state.blocks n) i
  pub entered : (x y : Text) (j n : ℕ) → meaning_of (find env x) ≡ Some (Module j)
      → meaning_in (scope_at env.state.blocks.scopes (module_at env.state.blocks j).scope) y ≡ Some (Sub n)
      → Comes tops (mark_of_module g.state.blocks j) (scope_of_sub g env.state.blocks n) i

-- so it is of as many numbers from n on
abbrev pub Along : (ℕ → Type 0) → ℕ → ℕ → Type 0
Along P n size = (i : ℕ) → n ≤ i → i < n + size → P i

-- The names in view in a body are in order, and its accepts have scopes of which something is so. What a guarded procedure may requeue to stands beside it.
pub record IsInOrder (g : Program) (tops : Option Tops) (accepts : ℕ → Type 0) (i : ℕ) (b : Block) : Type 0 where
  pub names : InOrder g tops i b.env
  pub own : Along accepts b.next (stmts_scopes b.stmts)
  pub requeues : is_some b.guard ≡ true → (x : Text) (n : ℕ) → meaning_of (find b.env x) ≡ Some (Sub n) → (sub_at b.env.state.blocks n).sort ≡ Guarded
      → Beside tops (scope_of_sub g b.env.state.blocks n) b.scope

-- The names of the scope stand for parameters, as those of an accept do: none is a sub or a module.
pub record IsForParameters (g : Program) (i : ℕ) : Type 0 where
  pub subs : (x : Text) (n : ℕ) → meaning_in (scope_at g.state.blocks.scopes i) x ≡ Some (Sub n) → ⊥
  pub modules : (x : Text) (n : ℕ) → meaning_in (scope_at g.state.blocks.scopes i) x ≡ Some (Module n) → ⊥

-- So it is of all bodies of a program.
pub record ProgramInOrder (g : Program) (tops : Option Tops) : Type 0 where
  pub blocks : AllByRecursion (λ (b : Block). IsInOrder g tops (IsForParameters g) b.scope b) g.blocks
  pub modules : AllByRecursion (λ (b : Block). IsInOrder g tops (IsForParameters g) 0 b) g.modules
  pub main : IsInOrder g tops (IsForParameters g) 0 g.main
