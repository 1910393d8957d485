-- What an invariant of runs asks of the text: of the names in view, by who performs it there, and of accepts.
use Rattle.std.specs.Prelude.{◌≡◌, ℕ, if◌then◌else◌, List, [], ◌∷◌, Some}
use Rattle.std.specs.List.{AllByRecursion}
use Rattle.pfc_tree.specs.Symbols.{Text}
use Rattle.pfc_types.specs.Scopes.{meaning_of, meaning_in, scope_at}
use Rattle.pfc_types.specs.Blocks.{sub_at, module_at}
use Rattle.pfc_types.specs.declared.scope.Meaning.TheVariants.{Sub, Module}
use Rattle.pfc_types.specs.rules.Expressions.{Env, find}
use Rattle.pfc_types.specs.rules.Statements.{within_accept}
use Rattle.pfc_semantics.specs.Objects.{module_number}
use Rattle.pfc_semantics.specs.Expressions.{spot_of}
use Rattle.pfc_semantics.specs.Programs.{Block, Program, block_at}
use Rattle.pfc_semantics.specs.Configurations.{Mark, plain, of_monitor, of_resource, Activation, Config, declared_block, activity_of}
use Rattle.pfc_run_invariants.specs.Fitting.{FitNames}

-- of a program: what is so of the names in view where process p performs them, in activations with these marks, innermost first, and of the scope of a variable
-- that is named; what of the number of the scope of an accept; and what of the names in view at a guard, whoever tries it
pub record Asked : Type 1 where
  pub program : Program
  pub env : ℕ → List Mark → Env → Type 0
  pub spot : ℕ → List Mark → ℕ → Type 0
  pub accept : ℕ → Type 0
  pub guard : Env → Type 0
  -- of whose activations it is asked at all, and of whom that acts
  pub alive : List Activation → Type 0
  pub acts : Config → ℕ → Type 0

-- the mark of an activation that is called from outside the n-th module
abbrev pub module_mark : Program → ℕ → Mark
module_mark g n =
    if (module_at g.state.blocks n).resource then of_resource (module_number g.state.blocks n) else of_monitor (module_number g.state.blocks n)

-- It is so wherever runs lead: in an accept, behind calls and requeues, at guards, and where processes begin. Constants have 32 bits.
pub record IsClosed (r : Asked) : Type 0 where
  pub names : (p : ℕ) (ms : List Mark) (env : Env) → r.env p ms env → FitNames env.state.blocks.scopes
  pub spots : (p : ℕ) (ms : List Mark) (env : Env) (x : Text) → r.env p ms env → r.spot p ms (spot_of env (find env x)).spot.scope
  pub outside : (p : ℕ) (ms : List Mark) → r.spot p ms 0
  pub accepts : (p : ℕ) (ms : List Mark) (env : Env) (i : ℕ) → r.env p ms env → r.accept i → r.env p ms (within_accept env i)
  pub calls : (p : ℕ) (ms : List Mark) (env : Env) (x : Text) (n : ℕ) → r.env p ms env → meaning_of (find env x) ≡ Some (Sub n)
      → r.env p (plain ∷ ms) (block_at r.program (sub_at env.state.blocks n).scope).env
  pub requeues : (p : ℕ) (ms : List Mark) (env : Env) (x : Text) (n : ℕ) → r.env p ms env → meaning_of (find env x) ≡ Some (Sub n)
      → r.env p ms (block_at r.program (sub_at env.state.blocks n).scope).env
  pub enters : (p : ℕ) (ms : List Mark) (env : Env) (x y : Text) (j n : ℕ) → r.env p ms env → meaning_of (find env x) ≡ Some (Module j)
      → meaning_in (scope_at env.state.blocks.scopes (module_at env.state.blocks j).scope) y ≡ Some (Sub n)
      → r.env p (module_mark r.program j ∷ ms) (block_at r.program (sub_at env.state.blocks n).scope).env
  pub guards : (p : ℕ) (ms : List Mark) (env : Env) → r.guard env → r.env p ms env
  pub begins : (p n : ℕ) → r.env p (plain ∷ []) (declared_block r.program n).env
  pub idle : (p n : ℕ) → r.alive [] → r.env p [] (declared_block r.program n).env
  pub nobody : (p : ℕ) → r.alive [] → r.env p [] r.program.main.env
  pub main : r.env 0 (plain ∷ []) r.program.main.env
  pub inits : AllByRecursion (λ (b : Block). r.env 0 (plain ∷ []) b.env) r.program.modules
  pub living : (c : Config) (p : ℕ) → r.acts c p → r.alive (activity_of r.program c p).activations
