-- What is told once, of the program, of a block that is called or created.
use Rattle.std.specs.Prelude.{ℕ, ◌<◌, ◌≡◌, ◌≢◌, ◌||◌, Bool, true, false, List, [], ◌∷◌, length, Some, None, is_some}
use Rattle.std.specs.List.{slice_get}
use Rattle.pfc_code.specs.declared.images.Block.{Block as CodeBlock}
use Rattle.pfc_tree.specs.trees.Parts.{ProgramTree}
use Rattle.pfc_types.specs.Types.{is_simple}
use Rattle.pfc_types.specs.Blocks.{module_at}
use Rattle.pfc_types.specs.declared.types.TypeId.{TypeId}
use Rattle.pfc_types.specs.declared.heads.Formal.{Formal}
use Rattle.pfc_types.specs.declared.heads.SubHead.{SubHead}
use Rattle.pfc_types.specs.declared.heads.ProcessHead.{ProcessHead}
use Rattle.pfc_types.specs.declared.heads.SubSort.{SubSort}
use Rattle.pfc_types.specs.declared.heads.SubSort.TheVariants.{Guarded}
use Rattle.pfc_types.specs.declared.scope.Meaning.{Meaning}
use Rattle.pfc_types.specs.declared.scope.Meaning.TheVariants.{Variable}
use Rattle.pfc_types.specs.rules.Declarations.{name_cells}
use Rattle.pfc_semantics.specs.Layouts.{is_laid, sub_with}
use Rattle.pfc_semantics.specs.Programs.{Block, Guard, block_at, block_number, layout_cells, program_of}
use Rattle.pfc_translation.specs.Sites.{is_mains, is_accept, links_from, module_of}
use Rattle.pfc_translation.specs.Images.{image_of}
use Rattle.pfc_image_laws.specs.Levels.{sees}
use Rattle.pfc_standing_code.specs.Words.{AreKnown}
use Rattle.pfc_call_laws.specs.Blocks.{Takes, own_variables}
use Rattle.pfc_call_laws.specs.Around.{scopes_around, HasScopes, IsNested}
use Rattle.pfc_call_laws.specs.Calls.{HasNoObjects}

abbrev pub is_guarded_sort : SubSort → Bool
is_guarded_sort Guarded = true
is_guarded_sort sort = false

-- A block of the program is found by its scope, by which code knows its number, and the image has it. Its parameters stand first in its layout, of which each
-- variable takes its cells. No part of its variables is an object, what is in view in its body is known there, and it is none of main's bodies.
pub record IsActivated (t : ProgramTree) (scope : ℕ) (formals : List Formal) : Type 0 where
  pub there : slice_get (program_of t).blocks (block_number (program_of t) scope) ≡ Some (block_at (program_of t) scope)
  pub own_scope : (block_at (program_of t) scope).scope ≡ scope
  pub code : CodeBlock
  pub is : slice_get (image_of t).blocks (block_number (program_of t) scope) ≡ Some code
  pub takes : Takes (program_of t) (block_at (program_of t) scope) formals code
  pub cells : (block_at (program_of t) scope).cells ≡ layout_cells (program_of t).state.forms (block_at (program_of t) scope).layout
  pub scopes : HasScopes (program_of t) (block_at (program_of t) scope)
  pub objects : HasNoObjects (program_of t) (block_at (program_of t) scope)
  pub known : AreKnown (program_of t) (block_at (program_of t) scope) [] (block_at (program_of t) scope).env
  pub state : (block_at (program_of t) scope).env.state ≡ (program_of t).state
  pub not_mains : is_mains (program_of t).state.blocks (block_at (program_of t) scope).scope ≡ false
  pub apart : (i : ℕ) → slice_get ((program_of t).main ∷ (program_of t).modules) i ≡ Some (block_at (program_of t) scope) → ⊥

-- the block of a sub: all its variables are of its own scope, and it has a guard where the sub is guarded
pub record IsSubBlock (t : ProgramTree) (head : SubHead) : Type 0 where
  pub activated : IsActivated t head.scope head.formals
  pub headed : sub_with (program_of t).state.blocks.subs head.scope ≡ Some head
  pub own : (j : ℕ) (m : Meaning) → slice_get (block_at (program_of t) head.scope).layout j ≡ Some m
      → j < own_variables (program_of t) (block_at (program_of t) head.scope)
  pub guarded : is_some (block_at (program_of t) head.scope).guard ≡ is_guarded_sort head.sort

-- The block of a process has no guard. It stands in the program, so it is nested in main's own body, next to it.
pub record IsProcessBlock (t : ProgramTree) (head : ProcessHead) : Type 0 where
  pub activated : IsActivated t head.scope head.formals
  pub outer : (block_at (program_of t) head.scope).outer ≡ 0
  pub unguarded : (block_at (program_of t) head.scope).guard ≡ None
  pub nested : IsNested (program_of t) (program_of t).main (block_at (program_of t) head.scope) 0

-- The scope of a process is that of no sub and of no body of main's, and those of its accepts are of no sub. Each of its variables takes a cell.
pub record IsApart (t : ProgramTree) (head : ProcessHead) : Type 0 where
  pub no_sub : sub_with (program_of t).state.blocks.subs head.scope ≡ None
  pub no_body : (i : ℕ) (b : Block) → slice_get ((program_of t).main ∷ (program_of t).modules) i ≡ Some b → b.scope ≢ head.scope
  pub accepts : (i : ℕ) → is_accept (block_at (program_of t) head.scope) i ≡ true → sub_with (program_of t).state.blocks.subs i ≡ None
  pub sized : (k : ℕ) (m : Meaning) → slice_get (block_at (program_of t) head.scope).layout k ≡ Some m → is_laid m ≡ true
      → 0 < name_cells (program_of t).state.forms m

-- the result of a function is a variable of a simple type, which stands behind the parameters
pub record HasResultAt (t : ProgramTree) (head : SubHead) : Type 0 where
  pub of_type : TypeId
  pub simple : is_simple of_type ≡ true
  pub laid : slice_get (block_at (program_of t) head.scope).layout (length head.formals) ≡ Some (Variable of_type false)

-- ## A call

-- A sub that is called as is asked, from this block: it is declared in a scope that is in view there or in one of main's, so that it is nested in the block as
-- its static link says; and its block has a guard where the sub is guarded.
pub record IsCalledFrom (t : ProgramTree) (b : Block) (scope : ℕ) (formals : List Formal) (asked : ℕ → SubSort → Type 0) : Type 0 where
  pub head : SubHead
  pub own_scope : scope ≡ head.scope
  pub own_formals : formals ≡ head.formals
  pub sub : IsSubBlock t head
  pub as_asked : asked (block_at (program_of t) scope).outer head.sort
  pub guarded : is_some (block_at (program_of t) scope).guard ≡ is_guarded_sort head.sort
  pub seen : (is_mains (program_of t).state.blocks (block_at (program_of t) scope).outer || sees b.env.view (block_at (program_of t) scope).outer) ≡ true
  pub nested : IsNested (program_of t) b (block_at (program_of t) scope)
      (links_from (program_of t).state.blocks b (block_at (program_of t) scope).outer)

-- A block that stands in a module, the n-th of all. So it is nested in main's own body, next to it.
pub record IsOfModule (t : ProgramTree) (n : ℕ) (b : Block) : Type 0 where
  pub among : n < length (program_of t).state.blocks.modules
  pub inside : module_of (program_of t).state.blocks b.outer ≡ Some n
  pub nested : IsNested (program_of t) (program_of t).main b 0

-- A guarded procedure of a resource.
pub record IsGuardedBlock (t : ProgramTree) (b : Block) : Type 0 where
  pub guard : Guard
  pub guarded : b.guard ≡ Some guard
  pub n : ℕ
  pub of_module : IsOfModule t n b
  pub resource : (module_at (program_of t).state.blocks n).resource ≡ true

-- A requeue leads from the body of a guarded procedure, in which no accept stands, to another of the same resource.
pub record IsRequeuedFrom (t : ProgramTree) (b callee : Block) : Type 0 where
  pub k : ℕ
  pub there : slice_get (program_of t).blocks k ≡ Some b
  pub own : Guard
  pub guarded : b.guard ≡ Some own
  pub alone : b.accepts ≡ 0
  pub head : SubHead
  pub headed : sub_with (program_of t).state.blocks.subs b.scope ≡ Some head
  pub sort : head.sort ≡ Guarded
  pub to : IsGuardedBlock t callee
  pub inside : module_of (program_of t).state.blocks b.outer ≡ Some to.n

-- main's own body or an initialising one: it stands in one of main's scopes, sees these alone, is no guarded procedure's, has no
-- accepts, and the cells of its own layout
pub record IsMainsBody (t : ProgramTree) (b : Block) : Type 0 where
  pub own : is_mains (program_of t).state.blocks b.scope ≡ true
  pub mains : (i : ℕ) → sees b.env.view i ≡ true → is_mains (program_of t).state.blocks i ≡ true
  pub alone : scopes_around (program_of t) b ≡ []
  pub unguarded : b.env.around.guarded ≡ false
  pub no_accept : (i : ℕ) → is_accept b i ≡ false
  pub cells : b.cells ≡ layout_cells (program_of t).state.forms b.layout
