-- What is told once, of the program, of a block that is called.
use Rattle.std.specs.Prelude.{ℕ, ◌<◌, ◌≡◌, List, [], ◌∷◌, Some, None}
use Rattle.std.specs.List.{slice_get}
use Rattle.pfc_code.specs.declared.images.Block.{Block as CodeBlock}
use Rattle.pfc_tree.specs.trees.Parts.{ProgramTree}
use Rattle.pfc_types.specs.declared.heads.Formal.{Formal}
use Rattle.pfc_types.specs.declared.heads.SubHead.{SubHead}
use Rattle.pfc_types.specs.declared.scope.Meaning.{Meaning}
use Rattle.pfc_semantics.specs.Layouts.{sub_with}
use Rattle.pfc_semantics.specs.Programs.{Block, program_of}
use Rattle.pfc_translation.specs.Images.{image_of}
use Rattle.pfc_standing_code.specs.Words.{AreKnown}
use Rattle.pfc_call_laws.specs.Blocks.{Takes, own_variables}
use Rattle.pfc_call_laws.specs.Around.{HasScopes, IsNested}
use Rattle.pfc_call_laws.specs.Calls.{HasNoObjects}
use Rattle.pfc_representation.specs.Levels.{number_in}

-- A sub is called from a block, its static link being so many links up: it has no guard, its parameters stand first in its layout, none of its variables is an
-- object, and what is in view in its body is known there. It is none of main's bodies.
pub record IsCallable (t : ProgramTree) (b callee : Block) (k l : ℕ) (formals : List Formal) : Type 0 where
  pub head : SubHead
  pub headed : sub_with (program_of t).state.blocks.subs callee.scope ≡ Some head
  pub formals_are : formals ≡ head.formals
  pub there : slice_get (program_of t).blocks k ≡ Some callee
  pub code : CodeBlock
  pub is : slice_get (image_of t).blocks k ≡ Some code
  pub number : k ≡ number_in (program_of t) callee
  pub takes : Takes (program_of t) callee formals code
  pub own : (j : ℕ) (m : Meaning) → slice_get callee.layout j ≡ Some m → j < own_variables (program_of t) callee
  pub scopes : HasScopes (program_of t) callee
  pub nested : IsNested (program_of t) b callee l
  pub objects : HasNoObjects (program_of t) callee
  pub unguarded : callee.guard ≡ None
  pub apart : (i : ℕ) → slice_get ((program_of t).main ∷ (program_of t).modules) i ≡ Some callee → ⊥
  pub known : AreKnown (program_of t) callee [] callee.env
  pub state : callee.env.state ≡ (program_of t).state
