-- What lies around a block that is called: static scoping, and the display.
use Rattle.std.specs.Prelude.{ℕ, ◌<◌, ◌≤◌, ◌==◌, ◌||◌, ◌≡◌, Bool, true, false, List, ◌∷◌, ◌++◌, [], length, map, drop, Some}
use Rattle.std.specs.List.{slice_get}
use Rattle.pfc_types.specs.declared.scope.Meaning.{Meaning}
use Rattle.pfc_semantics.specs.Displays.{Frame, Display, frame_of}
use Rattle.pfc_semantics.specs.Programs.{Block, Program, block_at}
use Rattle.pfc_translation.specs.Sites.{is_mains, linked, is_accept, before_accept, is_reference}
use Rattle.pfc_stacks.specs.Stacks.{Stacks, cells_of}
use Rattle.pfc_cells.specs.Homes.{Home}
use Rattle.pfc_standing_code.specs.Words.{is_known}
use Rattle.pfc_views.specs.Views.{block_site}

-- the scopes of the activations that static links lead to from a block, innermost first, but for main's
abbrev pub scopes_around : Program → Block → List ℕ
scopes_around g b = linked g.state.blocks b.env.view

-- A block is known by its scope, and the scopes of the accepts in it are none of those that are known there.
pub record HasScopes (g : Program) (callee : Block) : Type 0 where
  pub by_scope : block_at g callee.scope ≡ callee
  pub no_accept : (i : ℕ) → is_known g.state.blocks callee [] i ≡ true → is_accept callee i ≡ false

-- A block is called from another, l static links up: it is declared in the scope that is the l-th around the caller, the caller's own being the 0th, or in one
-- of main's behind the last.
pub record IsNested (g : Program) (b callee : Block) (l : ℕ) : Type 0 where
  pub around : scopes_around g callee ≡ callee.scope ∷ drop l (scopes_around g b)
  pub within : l ≤ length (scopes_around g b)
  pub inner : (i : ℕ) → slice_get (scopes_around g b) l ≡ Some i → callee.outer ≡ i
  pub outermost : l ≡ length (scopes_around g b) → is_mains g.state.blocks callee.outer ≡ true
  -- each scope is one of them once, and the new one none of those that stay
  pub once : (i j k : ℕ) → slice_get (scopes_around g b) j ≡ Some i → slice_get (scopes_around g b) k ≡ Some i → j ≡ k
  pub new : (k : ℕ) → slice_get (scopes_around g b) k ≡ Some callee.scope → k < l
  -- those of accepts in the caller are none of them
  pub no_accept : (i : ℕ) → is_known g.state.blocks b [] i ≡ true → is_accept b i ≡ false

-- The frames of a display are those of the scopes around its block, and behind them those of the accepts of its process.
pub record ShowsAround (g : Program) (b : Block) (display : Display) : Type 0 where
  pub accepts : List ℕ
  pub scopes : map (λ (f : Frame). f.scope) display ≡ scopes_around g b ++ accepts
  pub apart : (k i : ℕ) → slice_get accepts k ≡ Some i → is_mains g.state.blocks i ≡ false

-- An accept of the block is open, in an activation of this number: behind the own frame its scope has the frame of its parameters.
pub record IsOpenAccept (g : Program) (b : Block) (a : ℕ) (behind : Display) (i : ℕ) : Type 0 where
  pub accept : is_accept b i ≡ true
  pub frame : frame_of behind i ≡ record { scope = i; activation = a; first = before_accept (block_site g b) i }

-- The block is main's own or that of an initialising body: nothing is around it, and main's variables are no references.
pub record IsMainsCode (g : Program) (b : Block) : Type 0 where
  pub by_scope : block_at g 0 ≡ g.main
  pub alone : scopes_around g b ≡ []
  pub no_accept : (i : ℕ) → is_known g.state.blocks b [] i ≡ true → is_accept b i ≡ false
  pub own : (k : ℕ) (m : Meaning) → slice_get g.main.layout k ≡ Some m → is_reference m ≡ false

-- main's first activation alone is kept
abbrev pub main_alone : ℕ → Bool
main_alone a = a == 0

-- one activation more is kept
abbrev pub keeps_also : (ℕ → Bool) → ℕ → ℕ → Bool
keeps_also keeps a x = x == a || keeps x

-- the home of an activation of the block with scope i over those of process p
abbrev pub home_over : Stacks → ℕ → ℕ → Home
home_over stacks p i = record { process = p; cell = length (cells_of stacks p); scope = i }
