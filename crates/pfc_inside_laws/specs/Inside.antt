-- Who performs the text of a monitor is inside it.
use Rattle.std.specs.Prelude.{◌≡◌, ◌≢◌, ℕ, ◌==◌, ◌<◌, true, false, List, [], length, Option, Some, None}
use Rattle.std.specs.List.{list_any, slice_get}
use Rattle.pfc_state.specs.Stands.{Is_ready}
use Rattle.pfc_world.specs.Tables.{at}
use Rattle.pfc_tree.specs.Symbols.{Text}
use Rattle.pfc_types.specs.Scopes.{Level, meaning_of, meaning_in, scope_at}
use Rattle.pfc_types.specs.Blocks.{sub_at, module_at}
use Rattle.pfc_types.specs.declared.scope.Meaning.TheVariants.{Sub, Module}
use Rattle.pfc_types.specs.rules.Expressions.{Env, find}
use Rattle.pfc_types.specs.rules.Statements.{within_accept}
use Rattle.pfc_semantics.specs.Objects.{module_number}
use Rattle.pfc_semantics.specs.Programs.{Guard, Block, Program, block_at}
use Rattle.pfc_semantics.specs.Configurations.{Mark, declared_block, Config, activity_of}
use Rattle.pfc_semantics.specs.Monitors.{is_in}
use Rattle.pfc_run_invariants.specs.Asked.{Asked, module_mark}
use Rattle.pfc_run_invariants.specs.Fitting.{FitNames, FitList}
use Rattle.pfc_run_invariants.specs.Written.{FitsExpr, FitStmts}
use Rattle.pfc_run_invariants.specs.Configurations.{FitsConfig}

-- the scope i is that of a monitor, which has the number n among monitors
pub record IsMonitor (g : Program) (i n : ℕ) : Type 0 where
  pub place : ℕ
  pub among : place < length g.state.blocks.modules
  pub scope : (module_at g.state.blocks place).scope ≡ i
  pub inner : i ≢ 0
  pub monitor : (module_at g.state.blocks place).resource ≡ false
  pub number : module_number g.state.blocks place ≡ n

-- the names of the scope are in view
abbrev pub IsSeen : Env → ℕ → Type 0
IsSeen env i = list_any (λ (level : Level). level.scope == i) env.view ≡ true

-- the scope is no monitor's
abbrev pub IsNoMonitor : Program → ℕ → Type 0
IsNoMonitor g i = (n : ℕ) → IsMonitor g i n → ⊥

-- The scope may be that of an accept: it is no monitor's, and its names, which stand for parameters, are no subs.
pub record IsForAccept (g : Program) (i : ℕ) : Type 0 where
  pub monitor : IsNoMonitor g i
  pub subs : (x : Text) (k : ℕ) → meaning_in (scope_at g.state.blocks.scopes i) x ≡ Some (Sub k) → ⊥

abbrev pub SeesNoMonitor : Program → Env → Type 0
SeesNoMonitor g env = (i n : ℕ) → IsSeen env i → IsMonitor g i n → ⊥

-- The names that are in view somewhere in the bodies of a program: in a body, at a guard, and in the statement of an accept.
pub data IsOf (g : Program) : Env → Type 0 where
  of_main : IsOf g g.main.env
  of_module : (k : ℕ) (b : Block) → slice_get g.modules k ≡ Some b → IsOf g b.env
  of_block : (k : ℕ) (b : Block) → slice_get g.blocks k ≡ Some b → IsOf g b.env
  of_guard : (k : ℕ) (b : Block) (guard : Guard) → slice_get g.blocks k ≡ Some b → b.guard ≡ Some guard → IsOf g guard.env
  in_accept : (env : Env) (i : ℕ) → IsOf g env → IsForAccept g i → IsOf g (within_accept env i)

-- Static scoping, as far as monitors go. What is called by a name in view sees no monitor that is not seen there; what is called from outside a module sees
-- no monitor but that one; processes and guards see none. No sub has the scope of a monitor.
pub record IsScoped (g : Program) : Type 0 where
  pub state : (env : Env) → IsOf g env → env.state ≡ g.state
  pub names : FitNames g.state.blocks.scopes
  pub calls : (env : Env) (x : Text) (k i n : ℕ) → IsOf g env → meaning_of (find env x) ≡ Some (Sub k) → IsMonitor g i n
      → IsSeen (block_at g (sub_at env.state.blocks k).scope).env i → IsSeen env i
  pub enters : (env : Env) (x y : Text) (j k i n : ℕ) → IsOf g env → meaning_of (find env x) ≡ Some (Module j)
      → meaning_in (scope_at env.state.blocks.scopes (module_at env.state.blocks j).scope) y ≡ Some (Sub k) → IsMonitor g i n
      → IsSeen (block_at g (sub_at env.state.blocks k).scope).env i → is_in n (module_mark g j) ≡ true
  pub processes : (k : ℕ) → SeesNoMonitor g (declared_block g k).env
  pub guards : (k : ℕ) (b : Block) (guard : Guard) → slice_get g.blocks k ≡ Some b → b.guard ≡ Some guard → SeesNoMonitor g guard.env
  pub subs : (k : ℕ) → IsNoMonitor g (sub_at g.state.blocks k).scope

-- a child that performs a text with these names in view, in activations with these marks, is inside each monitor that is seen there
abbrev pub IsWithin : Program → ℕ → List Mark → Env → Type 0
IsWithin g p ms env = (p ≢ 0) → (i n : ℕ) → IsSeen env i → IsMonitor g i n → list_any (is_in n) ms ≡ true

-- what is asked of the text so
abbrev pub inside_of : Program → Asked
inside_of g =
    record {
      program = g;
      env = λ p ms env. IsOf g env × IsWithin g p ms env;
      spot = λ p ms i. (p ≢ 0) → (n : ℕ) → IsMonitor g i n → list_any (is_in n) ms ≡ true;
      accept = IsForAccept g;
      guard = λ env. IsOf g env × SeesNoMonitor g env;
      alive = λ activations. activations ≢ [];
      acts = λ c p. (at c.table.rows p ≡ Is_ready) × ((activity_of g c p).activations ≢ []);
    }

-- ## The text

abbrev pub FitsTest : Option Guard → Type 0
FitsTest None = Unit {0}
FitsTest (Some guard) = FitsExpr guard.test

-- In a body numbers have 32 bits, and accepts have scopes of parameters.
pub record FitsText (g : Program) (b : Block) : Type 0 where
  pub stmts : FitStmts (IsForAccept g) b.next b.stmts
  pub guard : FitsTest b.guard

-- so all bodies, and the first values
pub record HasText (g : Program) : Type 0 where
  pub blocks : (k : ℕ) (b : Block) → slice_get g.blocks k ≡ Some b → FitsText g b
  pub modules : (k : ℕ) (b : Block) → slice_get g.modules k ≡ Some b → FitStmts (IsForAccept g) b.next b.stmts × (b.guard ≡ None)
  pub main : FitStmts (IsForAccept g) g.main.next g.main.stmts × (g.main.guard ≡ None)
  pub firsts : FitList g.firsts
  pub variables : FitList g.variables

-- ## Runs

-- Each child is inside each monitor whose text it performs, and its numbers have 32 bits.
abbrev pub AreInside : Program → Config → Type 0
AreInside g c = FitsConfig (inside_of g) c

-- the process has living activations
abbrev pub IsAlive : Program → Config → ℕ → Type 0
IsAlive g c p = (activity_of g c p).activations ≢ []
